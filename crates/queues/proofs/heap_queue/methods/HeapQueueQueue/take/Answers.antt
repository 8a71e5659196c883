use Rattle.heaps.specs.Held.{held}
use Rattle.queues.proofs.Firsts.{first_some}
use Rattle.queues.proofs.Same.{same_queue}
use Rattle.queues.proofs.Sought.{take_bounded, take_distinct, take_has, take_taken}
use Rattle.queues.proofs.Worded.{worded_taken}
use Rattle.queues.proofs.heap_queue.methods.HeapQueueQueue.take.Goals as goal
use Rattle.queues.specs.Lists.{sought}
use Rattle.std.proofs.Common.{refl, arith}

pub returns-in_err-first-clause-stays : goal.returns-in_err-first-clause-stays
returns-in_err-first-clause-stays c = λ _. same_queue _ c.args.self.now c.in_err-first.ensures.answer.1 refl

pub invariant_of-self-2 : goal.invariant_of-self-2
invariant_of-self-2 c =
    let q = c.args.self.now in
    let x = c.in_ok-first.first in
    let xs = held q.heap in
    let ys = held c.take.new.self in
    let e = c.in_ok-first.ensures in
    let s = e.answer.1 in
    let b = take_bounded xs ys x q.apart s q.bounded in
    let cleared = c.remove.ensures.server (b.0.0, b.0.1) in
    record {
      long = omega (arith, e.space, q.long);
      apart = take_distinct xs ys x q.apart s;
      bounded = b.1;
      word = worded_taken (sought xs) (sought ys) q.held.word c.remove.new.self.word x b.0.0 (take_taken xs ys x q.apart s) q.word cleared.here cleared.others;
    }

pub returns-clause-answer : goal.returns-clause-answer
returns-clause-answer c =
    let q = c.args.self.now in
    let x = c.in_ok-first.first in
    let xs = held q.heap in
    let e = c.in_ok-first.ensures.answer in
    first_some xs x q.apart (take_has xs (held c.take.new.self) x q.apart e.1) e.0

pub returns-clause-after : goal.returns-clause-after
returns-clause-after c =
    let q = c.args.self.now in
    take_taken (held q.heap) (held c.take.new.self) c.in_ok-first.first q.apart c.in_ok-first.ensures.answer.1
