use Rattle.scripts.proofs.Cuts.{Cutting}
use Rattle.scripts.proofs.script.Script.read.Given as goal
use Rattle.std.proofs.Common.{length, vec_items}

abbrev pub invariant-loop-rest : goal.invariant-loop-rest
invariant-loop-rest l = Cutting l.bytes l.rest (vec_items l.lines)

abbrev pub decreases-loop-rest : goal.decreases-loop-rest
decreases-loop-rest l = length l.rest
