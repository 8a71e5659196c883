use Rattle.std.proofs.Common.{◌≡◌, ◌-◌, length, set, Some, sym, ap, ◌∙◌, subst, arith}
use Rattle.slots.specs.Slots.{closed}
use Rattle.slots.specs.Steps.{slot_of}
use Rattle.slots.specs.declared.slot.Slot.{Slot}
use Rattle.board.specs.Fits.{end_at, wait_at}
use Rattle.board.proofs.Closes.{renews, rested_else}
use Rattle.board.proofs.Ties.{Tells, first_at, first_server, tells_kept, tells_moved, tells_put, tells_taken}
use Rattle.board.proofs.table.Table.close_first.Goals as goal

pub enter-requires-clause-instant : goal.enter-requires-clause-instant
enter-requires-clause-instant g c =
    let o = c.args.self.now in
    let e = c.args.e in
    let at = first_at end_at o.slots (g.C.Queue.due o.calendar) o.working (g.C.Queue.within o.calendar) e c.requires.first in
    let r = renews e.instant (slot_of o.slots e.server) c.requires.fit at c.in-Next.end (sym c.close-closed.ensures.answer ∙ c.in-Next.is) in
    let fits = r.0.fits in
    omega (arith, r.1)

pub invariant_of-self : goal.invariant_of-self
invariant_of-self g c =
    let o = c.args.self.now in
    let e = c.args.e in
    let n : length o.slots ≡ 64 = omega arith in
    let due = g.C.Queue.due o.calendar in
    let who = first_server end_at o.slots due o.working (g.C.Queue.within o.calendar) e c.requires.first in
    let at = first_at end_at o.slots due o.working (g.C.Queue.within o.calendar) e c.requires.first in
    let v = closed e.instant (slot_of o.slots e.server) in
    let is : c.close-closed.new.self ≡ v = c.close-closed.ensures.after in
    let r = renews e.instant (slot_of o.slots e.server) c.requires.fit at c.in-Next.end (sym c.close-closed.ensures.answer ∙ c.in-Next.is) in
    let put = tells_put wait_at o.slots (g.Q.Queue.due o.ready) (g.Q.Queue.due c.enter-in-Next.new.queue) o.waiting n e.server who v c.in-Next.end (r.0.ready ∙ ap Some r.1) c.enter-in-Next.ensures.after in
    let moved = tells_moved end_at o.slots due (g.C.Queue.due c.enter.new.queue) o.working n e.server who v e.instant c.in-Next.end (g.C.Queue.due c.strike.new.queue) (r.0.calendar ∙ ap Some r.1) c.strike.ensures.after c.enter.ensures.after in
    record {
      waiting = subst (λ (z : Slot). Tells wait_at (set o.slots (e.server - 1) z) (g.Q.Queue.due c.enter-in-Next.new.queue)) (sym is) put;
      working = subst (λ (z : Slot). Tells end_at (set o.slots (e.server - 1) z) (g.C.Queue.due c.enter.new.queue)) (sym is) moved;
    }

pub invariant_of-self-in_default : goal.invariant_of-self-in_default
invariant_of-self-in_default g c =
    let o = c.args.self.now in
    let e = c.args.e in
    let n : length o.slots ≡ 64 = omega arith in
    let due = g.C.Queue.due o.calendar in
    let who = first_server end_at o.slots due o.working (g.C.Queue.within o.calendar) e c.requires.first in
    let at = first_at end_at o.slots due o.working (g.C.Queue.within o.calendar) e c.requires.first in
    let v = closed e.instant (slot_of o.slots e.server) in
    let is : c.close-closed.new.self ≡ v = c.close-closed.ensures.after in
    let r = rested_else e.instant (slot_of o.slots e.server) c.requires.fit at (λ z q. c.in_default.not-Next z (c.close-closed.ensures.answer ∙ q)) in
    let kept = tells_kept wait_at o.slots (g.Q.Queue.due o.ready) o.waiting n e.server who v (r.ready ∙ sym r.before) in
    let taken = tells_taken end_at o.slots due (g.C.Queue.due c.strike.new.queue) o.working n e.server who v e.instant r.calendar c.strike.ensures.after in
    record {
      waiting = subst (λ (z : Slot). Tells wait_at (set o.slots (e.server - 1) z) (g.Q.Queue.due o.ready)) (sym is) kept;
      working = subst (λ (z : Slot). Tells end_at (set o.slots (e.server - 1) z) (g.C.Queue.due c.strike.new.queue)) (sym is) taken;
    }
