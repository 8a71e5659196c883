-- Traces of single ticks, and that they tell the board that they lead to.
use Rattle.std.proofs.Common.{◌≡◌, ℕ, zero, suc, Bool, true, false, not, List, replicate, Some, None, Option, sym, refl, ap, ◌∙◌, subst, ⊎_elim, Ok, is_ok}
use Rattle.limits.specs.Ranges.{servers}
use Rattle.limits.specs.declared.refusal.Refusal.{Refusal}
use Rattle.release.specs.Actions.{Meaning, forecast}
use Rattle.release.specs.Rules.{WithinShare}
use Rattle.share.proofs.Explain.{Explained, Explains, Stepped, admit_step, leave_step, place_of, refused, standing, start_step}
use Rattle.share.proofs.Judging.{by_check}
use Rattle.share.proofs.Pace.{Suits}
use Rattle.share.proofs.Seeing.{seen}
use Rattle.share.proofs.Turning.{tick_step}
use Rattle.share.specs.Answers.{Answer, timed}
use Rattle.share.specs.Plays.{after_call, answer_of, spoken}
use Rattle.share.specs.Share.{ByChecks, Judged, Leaps}
use Rattle.share.specs.Traces.{Begins, Trace, nothing, said}
use Rattle.share.specs.declared.calls.Call.{Call}
use Rattle.share.specs.declared.calls.Call.TheVariants.{Admit, Leave, Start, Tick, Advance}
use Rattle.share.specs.declared.calls.Outcome.{Outcome}
use Rattle.share.specs.declared.calls.Outcome.TheVariants.{Done, Started, Ticked, Advanced}
use Rattle.board.proofs.Ties.{absent_all}
use Rattle.slots.proofs.Beginning.{beginning}
use Rattle.slots.specs.Advances.{advance_refusal, advanced, span, turns}
use Rattle.slots.specs.Steps.{Model, admit_refusal, arriving, changed, fresh, judged, leave_refusal, start_refusal, tick_refusal, ticked}
use Rattle.slots.specs.declared.sets.Advanced.{Advanced as ManyTicks}
use Rattle.slots.specs.declared.sets.Ticked.{Ticked as OneTick}
use Rattle.slots.specs.declared.slot.Slot.{Slot}
use Rattle.slots.specs.declared.slot.Slot.TheVariants.{Absent}
use Rattle.std.proofs.lemmas.List.{length-replicate}
use Rattle.std.proofs.lemmas.Bool.{both_ways}

-- no accepted advance
abbrev pub plain : Call → Answer → Bool
plain (Admit s c) a = true
plain (Leave s) a = true
plain (Start s asked) a = true
plain Tick a = true
plain (Advance n) a = not (is_ok a)

-- the trace was played on a new board, which then is m, by single ticks
abbrev pub Leads : Meaning → Trace → Model → Type 0
Leads rule nothing m = m ≡ fresh
Leads rule (said p c a) m = (n : Model) × Leads rule p n × (a ≡ answer_of rule n c) × (m ≡ after_call rule n c) × (plain c a ≡ true)

module _ (rule : Meaning) (p : Trace) (xs : List Slot) (e : Explains rule p xs) where
  -- an advance that is refused
  advance_step : (n : ℕ) → plain (Advance n) (answer_of rule (standing p xs) (Advance n)) ≡ true → Stepped rule p (standing p xs) (Advance n)
  advance_step n =
      let m = standing p xs in
      let a : Option Refusal → Answer = λ v. spoken Advanced (judged v (advanced m n)) in
      by_check (advance_refusal m n) (λ v. plain (Advance n) (a v) ≡ true → Judged v ((t : ManyTicks) × (a v ≡ Ok (Advanced t)) × Leaps n t) (a v) × Explained rule (said p (Advance n) (a v)) (changed v m (turns (span m n) m)))
      (λ _ h. absurd (both_ways false refl h))
      (λ why _ _. (refl, refused rule p xs e (Advance n) why))

  step_at : WithinShare rule → (c : Call) → plain c (answer_of rule (standing p xs) c) ≡ true → Stepped rule p (standing p xs) c
  step_at law (Admit s c) _ = admit_step rule p xs e s c
  step_at law (Leave s) _ = leave_step rule p xs e s
  step_at law (Start s asked) _ = start_step rule p xs e law s asked.load asked.limit asked.period
  step_at law Tick _ = tick_step rule p xs e
  step_at law (Advance n) h = advance_step n h

-- a board whose clock the trace tells
pub stands : (rule : Meaning) (p : Trace) (m : Model) → Explained rule p m → standing p m.slots ≡ m
stands rule p m e = λ i. record { clock = sym e.clock i; slots = m.slots }

pub step : (rule : Meaning) → WithinShare rule → (p : Trace) (m : Model) → Explained rule p m → (c : Call) → plain c (answer_of rule m c) ≡ true → Stepped rule p m c
step rule law p m e c = subst (λ (n : Model). plain c (answer_of rule n c) ≡ true → Stepped rule p n c) (stands rule p m e) (step_at rule p m.slots e.explains law c)

told_fresh : (rule : Meaning) → Explained rule nothing fresh
told_fresh rule = record { clock = refl; explains = record { sized = length-replicate servers Absent; sound = beginning 0 servers; slots = go } }
  where
    go : (s : ℕ) → Suits rule (seen nothing s) (place_of (replicate servers Absent) s)
    go zero = (refl, refl, refl)
    go (suc i) = subst (Suits rule (seen nothing (suc i))) (sym (absent_all servers i)) (refl, refl, refl)

-- the trace tells the board that it leads to
pub explained : (rule : Meaning) → WithinShare rule → (p : Trace) (m : Model) → Leads rule p m → Explained rule p m
explained rule law nothing m h = subst (Explained rule nothing) (sym h) (told_fresh rule)
explained rule law (said p c a) m h =
    let r = (step rule law p h.0 (explained rule law p h.0 h.1) c (ap (plain c) (sym h.2) ∙ h.4)).1 in
    subst (λ (b : Answer). Explained rule (said p c b) m) (sym h.2) (subst (Explained rule (said p c (answer_of rule h.0 c))) (sym h.3) r)

-- and each of its answers is the one that the checks give
pub by_checks : (rule : Meaning) → WithinShare rule → (p : Trace) (c : Call) (a : Answer) (m : Model) → Leads rule (said p c a) m → ByChecks rule p c a
by_checks rule law p c a m h = subst (ByChecks rule p c) (sym h.2) (step rule law p h.0 (explained rule law p h.0 h.1) c (ap (plain c) (sym h.2) ∙ h.4)).0

-- what every trace has of some board, if it has it with one answer less, each of its beginnings has of some board
pub led_by : (P : Trace → Model → Type 0) → ((p : Trace) (c : Call) (a : Answer) (m : Model) → P (said p c a) m → (n : Model) × P p n) → (q all : Trace) (m : Model) → Begins q all → P all m → (n : Model) × P q n
led_by P back q nothing m b l = (m, subst (λ (x : Trace). P x m) (sym b) l)
led_by P back q (said p c a) m b l =
    ⊎_elim
    (λ (e : q ≡ said p c a). let r : (n : Model) × P q n = (m, subst (λ (x : Trace). P x m) (sym e) l) in r)
    (λ (o : Begins q p). let r = back p c a m l in led_by P back q p r.0 o r.1)
    b

-- a beginning of the trace leads to some board too
pub led : (rule : Meaning) (q all : Trace) (m : Model) → Begins q all → Leads rule all m → (n : Model) × Leads rule q n
led rule = led_by (Leads rule) (λ p c a m l. (l.0, l.1))

-- an answer that took no time where its call was accepted took none
untimed : {T : Type 0} (f : T → Outcome) (x : T) (v : Option Refusal) → timed (Ok (f x)) ≡ false → timed (spoken f (judged v x)) ≡ false
untimed f x None h = h
untimed f x (Some why) h = refl

abbrev Ticks : Call → Answer → OneTick → Type 0
Ticks c a t = (c ≡ Tick) × (a ≡ Ok (Ticked t))

ticks_only : (rule : Meaning) (n : Model) (c : Call) → plain c (answer_of rule n c) ≡ true → timed (answer_of rule n c) ≡ true → Ticks c (answer_of rule n c) (ticked n)
ticks_only rule n (Admit s c) h t = absurd (both_ways _ (untimed (λ _. Done) (tt {0}) (admit_refusal n s c) refl) t)
ticks_only rule n (Leave s) h t = absurd (both_ways _ (untimed (λ _. Done) (tt {0}) (leave_refusal n s) refl) t)
ticks_only rule n (Start s asked) h t =
    let k = arriving n asked.load asked.limit asked.period in
    absurd (both_ways _ (untimed Started (forecast rule k) (start_refusal rule n s k) refl) t)
ticks_only rule n Tick h t = go (tick_refusal n) t
  where
    go : (v : Option Refusal) → timed (spoken Ticked (judged v (ticked n))) ≡ true → Ticks Tick (spoken Ticked (judged v (ticked n))) (ticked n)
    go None t = (refl, refl)
    go (Some why) t = absurd (both_ways false refl t)
ticks_only rule n (Advance x) h t = absurd (go (advance_refusal n x) h t)
  where
    go : (v : Option Refusal) → plain (Advance x) (spoken Advanced (judged v (advanced n x))) ≡ true → timed (spoken Advanced (judged v (advanced n x))) ≡ true → ⊥
    go None h t = both_ways false refl h
    go (Some why) h t = both_ways false refl t

-- an answer that takes time is the tick of the slots that the trace tells
pub record Row (rule : Meaning) (p : Trace) (c : Call) (a : Answer) : Type 0 where
  pub slots : List Slot
  pub explains : Explains rule p slots
  pub call : c ≡ Tick
  pub answer : a ≡ Ok (Ticked (ticked (standing p slots)))

pub row_of : (rule : Meaning) → WithinShare rule → (p : Trace) (c : Call) (a : Answer) (m : Model) → Leads rule (said p c a) m → timed a ≡ true → Row rule p c a
row_of rule law p c a m l t =
    let n = l.0 in
    let e = explained rule law p n l.1 in
    let r = ticks_only rule n c (ap (plain c) (sym l.2) ∙ l.4) (ap timed (sym l.2) ∙ t) in
    record { slots = n.slots; explains = e.explains; call = r.0; answer = l.2 ∙ r.1 ∙ ap (λ (z : Model). Ok (Ticked (ticked z))) (sym (stands rule p n e)) }
