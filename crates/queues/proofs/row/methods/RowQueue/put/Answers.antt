use Rattle.std.proofs.Common.{arith}
use Rattle.queues.proofs.Checked.{put_clear}
use Rattle.queues.proofs.Standing.{in_front, new_bounded, new_distinct, new_falls, new_good, new_put, new_room}
use Rattle.queues.proofs.Worded.{worded_put}
use Rattle.queues.proofs.row.methods.RowQueue.put.Goals as goal
use Rattle.queues.specs.Lists.{sought}
use Rattle.queues.specs.Makes.{row_due}
use Rattle.queues.specs.declared.entry.Entry.{Entry}

pub insert-place-requires : goal.insert-place-requires
insert-place-requires c =
    let q = c.args.self.now in
    let new : Entry = record { instant = c.args.instant; server = c.args.server } in
    let checked = put_clear (row_due q) new.server new.instant c.holds.result c.holds.ensures.answer c.in_ok-check_put.ensures.answer in
    record { room = new_room q new checked }

pub invariant_of-self : goal.invariant_of-self
invariant_of-self c =
    let q = c.args.self.now in
    let new : Entry = record { instant = c.args.instant; server = c.args.server } in
    let checked = put_clear (row_due q) new.server new.instant c.holds.result c.holds.ensures.answer c.in_ok-check_put.ensures.answer in
    let good = new_good q new checked in
    let placed = c.insert-place.ensures.after (in_front q new) in
    let r = c.insert-place.result in
    let ys = c.insert-place.new.entries.items in
    let set = c.insert.ensures.server (good.0, good.1) in
    record {
      falls = new_falls q new checked r ys placed.after placed.within placed.place;
      apart = new_distinct q new checked r ys placed.after;
      bounded = new_bounded q new checked r ys placed.after;
      word = worded_put (row_due q) (sought ys) q.held.word c.insert.new.self.word new.server new.instant good.0 (new_put q new checked r ys placed.after) q.word (set.here (omega arith)) set.others;
    }

pub returns-clause-after : goal.returns-clause-after
returns-clause-after c =
    let q = c.args.self.now in
    let new : Entry = record { instant = c.args.instant; server = c.args.server } in
    let checked = put_clear (row_due q) new.server new.instant c.holds.result c.holds.ensures.answer c.in_ok-check_put.ensures.answer in
    λ _. new_put q new checked c.insert-place.result c.insert-place.new.entries.items (c.insert-place.ensures.after (in_front q new)).after
