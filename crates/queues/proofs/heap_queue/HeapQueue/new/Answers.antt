use Rattle.heaps.specs.Held.{held}
use Rattle.queues.proofs.Sought.{empty_list}
use Rattle.queues.proofs.heap_queue.HeapQueue.new.Goals as goal
use Rattle.std.proofs.Common.{arith}

pub invariant_of-result : goal.invariant_of-result
invariant_of-result c =
    let l = empty_list (held c.new.result) c.new.ensures.answer in
    record { long = omega arith; apart = l.0; bounded = l.1; word = l.2 }

pub returns : goal.returns
returns c = record { answer = (omega arith, (empty_list (held c.new.result) c.new.ensures.answer).3) }
