use Rattle.queues.proofs.Standing.{last_first, taken, taken_bounded, taken_distinct, taken_falls}
use Rattle.queues.proofs.Worded.{worded_taken}
use Rattle.queues.proofs.row.methods.RowQueue.take.Goals as goal
use Rattle.queues.specs.Lists.{sought}
use Rattle.queues.specs.Makes.{row_due}

pub invariant_of-self-2 : goal.invariant_of-self-2
invariant_of-self-2 c =
    let q = c.args.self.now in
    let ys = c.pop.new.self.items in
    let x = c.in_ok-first.first in
    let is = c.in_ok-first.ensures.items in
    let b = taken_bounded q ys x is in
    let cleared = c.remove.ensures.server (b.0.0, b.0.1) in
    record {
      falls = taken_falls q ys x is;
      apart = taken_distinct q ys x is;
      bounded = b.1;
      word = worded_taken (row_due q) (sought ys) q.held.word c.remove.new.self.word x b.0.0 (taken q ys x is) q.word cleared.here cleared.others;
    }

pub returns-clause-answer : goal.returns-clause-answer
returns-clause-answer c = last_first c.args.self.now _ c.in_ok-first.ensures.value

pub returns-clause-after : goal.returns-clause-after
returns-clause-after c = taken c.args.self.now c.pop.new.self.items c.in_ok-first.first c.in_ok-first.ensures.items
