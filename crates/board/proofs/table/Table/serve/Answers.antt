use Rattle.std.proofs.Common.{◌≡◌, ◌-◌, length, set, sym, ap, ◌∙◌, subst, arith}
use Rattle.slots.specs.declared.slot.Slot.{Slot}
use Rattle.slots.specs.Marks.{served_by, served_for}
use Rattle.slots.specs.Steps.{number, slot_of}
use Rattle.board.specs.Fits.{end_at, wait_at}
use Rattle.board.proofs.Ties.{Tells, tells_kept, tells_taken}
use Rattle.board.proofs.Picks.{ready_none, ready_number, ready_served, ready_server, served_end, served_on, served_out}
use Rattle.board.proofs.table.Table.serve.Goals as goal

pub returns-in_err-e-clause-answer : goal.returns-in_err-e-clause-answer
returns-in_err-e-clause-answer g c = let p = ap number (ready_none c.args.self.now c.in_err-e.ensures.answer) in cc

pub returns-in_err-e-clause-slots : goal.returns-in_err-e-clause-slots
returns-in_err-e-clause-slots g c = ap (served_for c.args.ticks c.args.self.now.slots) (ready_none c.args.self.now c.in_err-e.ensures.answer)

pub invariant_of-self : goal.invariant_of-self
invariant_of-self g c =
    let o = c.args.self.now in
    let e = c.in_ok-e.e in
    let n : length o.slots ≡ 64 = omega arith in
    let who = ready_server o e c.in_ok-e.ensures.answer in
    let x = slot_of o.slots e.server in
    let v = served_by c.args.ticks x in
    let is : c.serve.new.self ≡ v = c.serve.ensures.after in
    let out = served_out c.args.ticks x (sym c.serve.ensures.answer ∙ c.if-serve-eq0.true) in
    let taken = tells_taken wait_at o.slots (g.Q.Queue.due o.ready) (g.Q.Queue.due c.strike.new.queue) o.waiting n e.server who v e.instant out c.strike.ensures.after in
    let kept = tells_kept end_at o.slots (g.C.Queue.due o.calendar) o.working n e.server who v (served_end c.args.ticks x) in
    record {
      waiting = subst (λ (z : Slot). Tells wait_at (set o.slots (e.server - 1) z) (g.Q.Queue.due c.strike.new.queue)) (sym is) taken;
      working = subst (λ (z : Slot). Tells end_at (set o.slots (e.server - 1) z) (g.C.Queue.due o.calendar)) (sym is) kept;
    }

pub invariant_of-self-else-serve-eq0 : goal.invariant_of-self-else-serve-eq0
invariant_of-self-else-serve-eq0 g c =
    let o = c.args.self.now in
    let e = c.in_ok-e.e in
    let n : length o.slots ≡ 64 = omega arith in
    let who = ready_server o e c.in_ok-e.ensures.answer in
    let x = slot_of o.slots e.server in
    let v = served_by c.args.ticks x in
    let is : c.serve.new.self ≡ v = c.serve.ensures.after in
    let some = c.serve.ensures.answer in
    let left = c.if-serve-eq0.false in
    let waits = tells_kept wait_at o.slots (g.Q.Queue.due o.ready) o.waiting n e.server who v (served_on c.args.ticks x (omega arith)) in
    let works = tells_kept end_at o.slots (g.C.Queue.due o.calendar) o.working n e.server who v (served_end c.args.ticks x) in
    record {
      waiting = subst (λ (z : Slot). Tells wait_at (set o.slots (e.server - 1) z) (g.Q.Queue.due o.ready)) (sym is) waits;
      working = subst (λ (z : Slot). Tells end_at (set o.slots (e.server - 1) z) (g.C.Queue.due o.calendar)) (sym is) works;
    }

pub returns-then-serve-eq0-clause-answer : goal.returns-then-serve-eq0-clause-answer
returns-then-serve-eq0-clause-answer g c = ready_number c.args.self.now c.in_ok-e.e c.in_ok-e.ensures.answer (omega arith)

pub returns-then-serve-eq0-clause-slots : goal.returns-then-serve-eq0-clause-slots
returns-then-serve-eq0-clause-slots g c = ready_served c.args.self.now c.in_ok-e.e c.in_ok-e.ensures.answer (omega arith) c.args.ticks c.serve.new.self c.serve.ensures.after

pub returns-else-serve-eq0-clause-answer : goal.returns-else-serve-eq0-clause-answer
returns-else-serve-eq0-clause-answer g c = ready_number c.args.self.now c.in_ok-e.e c.in_ok-e.ensures.answer (omega arith)

pub returns-else-serve-eq0-clause-slots : goal.returns-else-serve-eq0-clause-slots
returns-else-serve-eq0-clause-slots g c = ready_served c.args.self.now c.in_ok-e.e c.in_ok-e.ensures.answer (omega arith) c.args.ticks c.serve.new.self c.serve.ensures.after
