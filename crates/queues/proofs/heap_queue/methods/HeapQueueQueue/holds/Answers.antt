use Rattle.std.proofs.Common.{◌∙◌}
use Rattle.queues.proofs.Worded.{worded_has}
use Rattle.queues.proofs.heap_queue.methods.HeapQueueQueue.holds.Goals as goal
use Rattle.queues.specs.Makes.{heap_due, heap_within}

pub returns : goal.returns
returns c =
    let q = c.args.self.now in
    record { answer = c.contains.ensures.answer ∙ worded_has (heap_due q) q.held c.args.server (heap_within q) q.word }
