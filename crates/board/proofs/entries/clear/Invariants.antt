use Rattle.queues.specs.Sizes.{size}
use Rattle.board.proofs.entries.clear.Given as goal

abbrev pub decreases-loop-e : goal.decreases-loop-e
decreases-loop-e g l = size 65 (g.Q.Queue.due l.queue)
