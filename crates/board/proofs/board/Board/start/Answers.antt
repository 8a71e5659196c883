use Rattle.std.proofs.Common.{◌≡◌, ◌-◌, ◌<◌, ◌≤◌, Option, length, get_or, sym, ap, ◌∙◌, mul-le-mul, arith}
use Rattle.std.specs.Coded.{le_prop}
use native.Mathlib.Nat.{ℕ_set}
use Rattle.limits.specs.Ranges.{horizon}
use Rattle.limits.specs.declared.refusal.Refusal.{Refusal}
use Rattle.queues.specs.declared.queue.Queue as queues
use Rattle.release.proofs.Boundaries.{forecast_from}
use Rattle.release.proofs.Values.{ranged}
use Rattle.release.specs.Openings.{opening_of}
use Rattle.release.specs.declared.opening.Opening.{Opening}
use Rattle.release.specs.declared.rule.ReleaseRule as rules
use Rattle.slots.proofs.Starting.{starting}
use Rattle.slots.proofs.Totals.{total_set_same}
use Rattle.slots.specs.Slots.{Sound, cap_of, total}
use Rattle.slots.specs.Steps.{arriving, changed, opened, opened_by, put, slot_of}
use Rattle.slots.specs.declared.slot.Slot.TheVariants.{Absent, Working}
use Rattle.slots.specs.declared.slot.Work.{Work}
use Rattle.board.specs.Boards.{model}
use Rattle.board.specs.Fits.{AllLast, Lasting, Sound-prop}
use Rattle.board.specs.declared.board.Board.{Board}
use Rattle.board.proofs.Begins.{Opened, opening}
use Rattle.board.proofs.Judged.{server_none, start_idle}
use Rattle.board.proofs.Openings.{opening_made}
use Rattle.board.proofs.Slotwise.{cap_of_le, each_set, resting_is}
use Rattle.board.proofs.board.Board.start.Goals as goal
use Rattle.board.proofs.board.Board.start.Goals.{In_ok-opening}

-- a board is its plain fields
same_board : {R X Y : Type 0} {r : rules.Ghosts R} {q : queues.Ghosts X} {c : queues.Ghosts Y} (b : Board R X Y r q c) (early : b.clock ≤ horizon) (caps : b.held ≡ total cap_of b.table.slots) (sound : Sound b.clock b.table.slots) (lasting : AllLast b.table.slots) → ◌≡◌ {A = Board R X Y r q c} (record { rule = b.rule; clock = b.clock; held = b.held; table = b.table; early = early; caps = caps; sound = sound; lasting = lasting }) b
same_board b early caps sound lasting = λ i. record {
  rule = b.rule;
  clock = b.clock;
  held = b.held;
  table = b.table;
  early = le_prop early b.early i;
  caps = ℕ_set _ _ caps b.caps i;
  sound = Sound-prop b.clock b.table.slots sound b.sound i;
  lasting = λ j. (le_prop (lasting j).0 (b.lasting j).0 i, le_prop (lasting j).1 (b.lasting j).1 i);
}

-- the first stretch that a start makes
begins : (g : _) (c : In_ok-opening g) → Opened c.args.self.now.clock (opened (g.R.ReleaseRule.amount c.args.self.now.rule) c.in_ok-cap.«cap» (arriving (model c.args.self.now) c.args.task.load c.args.task.limit c.args.task.period))
begins g c =
    let o = c.args.self.now in
    let rule = g.R.ReleaseRule.amount o.rule in
    let k = arriving (model o) c.args.task.load c.args.task.limit c.args.task.period in
    let v = sym c.in_ok-check.ensures.answer in
    opening rule (g.met.R.ReleaseRule.share o.rule) k c.in_ok-cap.«cap» (ranged k v) c.if-cap-task.false (opening_made rule k v c.in_ok-opening.opening c.in_ok-opening.ensures.answer).1

-- and what the opening says of it
opens : (g : _) (c : In_ok-opening g) → c.in_ok-opening.opening ≡ opening_of (g.R.ReleaseRule.amount c.args.self.now.rule) (arriving (model c.args.self.now) c.args.task.load c.args.task.limit c.args.task.period)
opens g c =
    let o = c.args.self.now in
    let k = arriving (model o) c.args.task.load c.args.task.limit c.args.task.period in
    (opening_made (g.R.ReleaseRule.amount o.rule) k (sym c.in_ok-check.ensures.answer) c.in_ok-opening.opening c.in_ok-opening.ensures.answer).0

pub returns-in_err-cap-clause-after : goal.returns-in_err-cap-clause-after
returns-in_err-cap-clause-after g c =
    let m = model c.args.self.now in
    let rule = g.R.ReleaseRule.amount c.args.self.now.rule in
    let s = c.args.server in
    let k = arriving m c.args.task.load c.args.task.limit c.args.task.period in
    let no = start_idle rule m s k (sym c.in_ok-check_server.ensures.answer) (sym c.in_ok-check.ensures.answer) c.in_err-cap.field-0.0 c.in_err-cap.ensures.answer in
    sym (ap (λ (w : Option Refusal). changed w m (put m s (Working (opened rule (cap_of (slot_of m.slots s)) k)))) no)

pub overflow_mul-cap : goal.overflow_mul-cap
overflow_mul-cap g c =
    let o = c.args.self.now in
    let rests = resting_is (get_or o.table.slots (c.args.server - 1) Absent) c.in_ok-cap.«cap» c.in_ok-cap.ensures.answer in
    let unit = o.sound.caps in
    let a : c.in_ok-cap.«cap» ≤ 1000000 = omega (arith, cap_of_le o.table.slots (c.args.server - 1), ap cap_of rests) in
    let b : c.args.task.period ≤ 1000000 = (ranged (arriving (model o) c.args.task.load c.args.task.limit c.args.task.period) (sym c.in_ok-check.ensures.answer)).period_high in
    omega (arith, mul-le-mul a b)

pub returns-in_err-opening-clause-stays : goal.returns-in_err-opening-clause-stays
returns-in_err-opening-clause-stays g c = λ _. same_board c.args.self.now _ _ _ _

pub first_work-work-requires : goal.first_work-work-requires
first_work-work-requires g c =
    let o = c.args.self.now in
    let k = arriving (model o) c.args.task.load c.args.task.limit c.args.task.period in
    omega (arith, ap (λ (p : Opening). p.boundary) (opens g (goal.at.first_work-work-requires g c).In_ok-opening), forecast_from (g.R.ReleaseRule.amount o.rule) k, (opening_made (g.R.ReleaseRule.amount o.rule) k (sym c.in_ok-check.ensures.answer) c.in_ok-opening.opening c.in_ok-opening.ensures.answer).1)

pub put-requires-clause-early : goal.put-requires-clause-early
put-requires-clause-early g c =
    let d = goal.at.put-requires-clause-early g c in
    let k = arriving (model c.args.self.now) c.args.task.load c.args.task.limit c.args.task.period in
    let work = c.first_work-work.ensures.answer ∙ ap (opened_by c.in_ok-cap.«cap» k) (opens g d.In_ok-opening) in
    let fits = (begins g d.In_ok-opening).lasts.1 in
    omega (arith, ap (λ (w : Work). w.end) work)

pub invariant_of-self-2 : goal.invariant_of-self-2
invariant_of-self-2 g c =
    let o = c.args.self.now in
    let d = goal.at.invariant_of-self-2 g c in
    let xs = o.table.slots in
    let i = c.args.server - 1 in
    let k = arriving (model o) c.args.task.load c.args.task.limit c.args.task.period in
    let w = opened (g.R.ReleaseRule.amount o.rule) c.in_ok-cap.«cap» k in
    let work : c.first_work-work.result ≡ w = c.first_work-work.ensures.answer ∙ ap (opened_by c.in_ok-cap.«cap» k) (opens g d.In_ok-opening) in
    let is = resting_is (get_or xs i Absent) c.in_ok-cap.«cap» c.in_ok-cap.ensures.answer in
    let range = server_none c.args.server (sym c.in_ok-check_server.ensures.answer) in
    let l : i < length xs = omega arith in
    let first = begins g d.In_ok-opening in
    rw (c.put.ensures.slots, work) (record {
      early = o.early;
      caps = o.caps ∙ sym (total_set_same cap_of xs i (Working w) Absent l (sym (ap cap_of is)));
      sound = starting o.clock xs i l o.sound w is first.fits;
      lasting = each_set Lasting xs i (Working w) l first.lasts o.lasting;
    })
