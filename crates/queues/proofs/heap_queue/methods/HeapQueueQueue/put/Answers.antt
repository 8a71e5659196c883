use Rattle.std.proofs.Common.{arith}
use Rattle.heaps.specs.Held.{held}
use Rattle.queues.proofs.Checked.{passed, put_clear}
use Rattle.queues.proofs.Firsts.{entered}
use Rattle.queues.proofs.Sought.{put_bounded, put_distinct, put_put}
use Rattle.queues.proofs.Worded.{worded_put}
use Rattle.queues.proofs.heap_queue.methods.HeapQueueQueue.put.Goals as goal
use Rattle.queues.specs.Lists.{sought}
use Rattle.queues.specs.Makes.{heap_due}
use Rattle.queues.specs.declared.entry.Entry.{Entry}

pub invariant_of-self : goal.invariant_of-self
invariant_of-self c =
    let q = c.args.self.now in
    let x : Entry = record { instant = c.args.instant; server = c.args.server } in
    let xs = held q.heap in
    let ys = held c.put.new.self in
    let checked = put_clear (heap_due q) x.server x.instant c.holds.result c.holds.ensures.answer c.in_ok-check_put.ensures.answer in
    let ok = passed (heap_due q) x.server x.instant checked in
    let more = entered q x c.put.new.self c.put.result checked c.put.ensures.answer in
    let set = c.insert.ensures.server (ok.0, ok.1) in
    record {
      long = omega (arith, c.put.ensures.space, q.long);
      apart = put_distinct xs ys x q.apart ok.3 more;
      bounded = put_bounded xs ys x q.apart ok.3 more (ok.0, ok.1, ok.2) q.bounded;
      word = worded_put (sought xs) (sought ys) q.held.word c.insert.new.self.word x.server x.instant ok.0 (put_put xs ys x q.apart ok.3 more) q.word (set.here (omega arith)) set.others;
    }

pub returns-clause-after : goal.returns-clause-after
returns-clause-after c =
    let q = c.args.self.now in
    let x : Entry = record { instant = c.args.instant; server = c.args.server } in
    let checked = put_clear (heap_due q) x.server x.instant c.holds.result c.holds.ensures.answer c.in_ok-check_put.ensures.answer in
    λ _. put_put (held q.heap) (held c.put.new.self) x q.apart (passed (heap_due q) x.server x.instant checked).3 (entered q x c.put.new.self c.put.result checked c.put.ensures.answer)
