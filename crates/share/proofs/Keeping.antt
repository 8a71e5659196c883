-- The law of every list of calls, advances among them.
use Rattle.std.proofs.Common.{◌≡◌, ℕ, zero, suc, ◌-◌, ◌<◌, ◌≤◌, true, leb, List, [], ◌∷◌, ◌++◌, length, drop, Some, None, Option, sym, refl, ap, ◌∙◌, subst, append-nil, arith, Ok}
use Rattle.board.proofs.Judged.{tick_accepted}
use Rattle.limits.proofs.Passed.{refuse_none}
use Rattle.limits.specs.Ranges.{horizon, outside}
use Rattle.limits.specs.declared.refusal.Refusal.{Refusal}
use Rattle.limits.specs.declared.refusal.Refusal.TheVariants.{AdvanceCount, ClockAtHorizon}
use Rattle.release.proofs.Values.{inside}
use Rattle.release.specs.Actions.{Meaning, forecast}
use Rattle.release.specs.Rules.{WithinShare}
use Rattle.share.proofs.Explain.{Explained}
use Rattle.share.proofs.Holds.{share_of}
use Rattle.share.proofs.Judging.{by_check}
use Rattle.share.proofs.Leading.{Leads, explained, led_by, plain, step}
use Rattle.share.specs.Answers.{Answer, told}
use Rattle.share.specs.Plays.{after_call, answer_of, answers_of, spoken}
use Rattle.share.specs.Share.{ByChecks, Judged, Kept, Leaps, Shares}
use Rattle.share.specs.Traces.{Begins, Trace, heard, nothing, quiet, said, spell, spelt}
use Rattle.share.specs.declared.calls.Call.{Call}
use Rattle.share.specs.declared.calls.Call.TheVariants.{Admit, Leave, Start, Tick, Advance}
use Rattle.share.specs.declared.calls.Outcome.{Outcome}
use Rattle.share.specs.declared.calls.Outcome.TheVariants.{Done, Started, Ticked, Advanced}
use Rattle.slots.proofs.Spans.{largest, turns_clock}
use Rattle.slots.specs.Advances.{Allowed, advance_refusal, advanced, leapt, span, turns}
use Rattle.slots.specs.Checks.{advance_check}
use Rattle.slots.specs.Slots.{Sound}
use Rattle.slots.specs.Steps.{Model, admit_refusal, arriving, changed, fresh, judged, leave_refusal, moved, start_refusal, tick_refusal, ticked}
use Rattle.slots.specs.declared.sets.Advanced.{Advanced as ManyTicks}
use Rattle.slots.specs.declared.sets.Sets.{Sets}
use Rattle.slots.specs.declared.sets.Ticked.{Ticked as OneTick}
use Rattle.std.proofs.lemmas.Bool.{leb-false}
use Rattle.std.proofs.lemmas.List.{at_drop_all}

-- the trace was played on a new board, which then is m
abbrev pub Ran : Meaning → Trace → Model → Type 0
Ran rule nothing m = m ≡ fresh
Ran rule (said p c a) m = (n : Model) × Ran rule p n × (a ≡ answer_of rule n c) × (m ≡ after_call rule n c)

same_ticked : {s s' : Option ℕ} {z z' : Sets} → s ≡ s' → z ≡ z' → ◌≡◌ {A = OneTick} (record { served = s; sets = z }) (record { served = s'; sets = z' })
same_ticked p q = λ i. record { served = p i; sets = q i }

-- a tick before the horizon
tick_told : (rule : Meaning) (z : Model) → z.clock < horizon → answer_of rule z Tick ≡ Ok (Ticked (ticked z))
tick_told rule z h = ap (λ (v : Option Refusal). spoken Ticked (judged v (ticked z))) (tick_accepted z h)

tick_goes : (rule : Meaning) (z : Model) → z.clock < horizon → moved z ≡ after_call rule z Tick
tick_goes rule z h = ap (λ (v : Option Refusal). changed v z (moved z)) (sym (tick_accepted z h))

-- the ticks of an advance by n that takes k lead to the board after them
module _ (rule : Meaning) (p : Trace) (m : Model) (leads : Leads rule p m) (n k : ℕ) (a : Allowed m n k) where
  early : (i : ℕ) → i < k → (turns i m).clock < horizon
  early i h = omega (arith, turns_clock i m, a.early)

  quietly : (i : ℕ) → i < k → Leads rule (quiet p (ticked m).served i) (turns i m)
  quietly zero h = leads
  quietly (suc i) h =
      let z = turns i m in
      let low = early i (omega arith) in
      let one = same_ticked (a.same i (omega arith)) (a.quiet i (omega arith)) in
      (z, quietly i (omega arith), sym (tick_told rule z low ∙ ap (λ (t : OneTick). Ok (Ticked t)) one), tick_goes rule z low, refl)

-- and the last gives the sets
leaps : (rule : Meaning) (p : Trace) (m : Model) → Leads rule p m → (n k : ℕ) → Allowed m n k → Leads rule (spell p (Advance n) (Ok (Advanced (leapt m k))) k) (turns k m)
leaps rule p m leads n zero a = absurd (omega (arith, a.some))
leaps rule p m leads n (suc j) a =
    let z = turns j m in
    let low = early rule p m leads n (suc j) a j (omega arith) in
    let e : j ≡ suc j - 1 = omega arith in
    let one = same_ticked (a.same j (omega arith)) (ap (λ (i : ℕ). (ticked (turns i m)).sets) e) in
    (z, quietly rule p m leads n (suc j) a j (omega arith), sym (tick_told rule z low ∙ ap (λ (t : OneTick). Ok (Ticked t)) one), tick_goes rule z low, refl)

module _ (rule : Meaning) (law : WithinShare rule) (p : Trace) (m : Model) (leads : Leads rule p m) where
  tells : Explained rule p m
  tells = explained rule law p m leads

  -- a call, spelt out
  abbrev pub Goes : Call → Answer → Model → Type 0
  Goes c a z = ByChecks rule p c a × Leads rule (spell p c a (told a).ticks) z

  -- one that is no accepted advance
  single : (c : Call) → plain c (answer_of rule m c) ≡ true → spell p c (answer_of rule m c) (told (answer_of rule m c)).ticks ≡ said p c (answer_of rule m c) → Goes c (answer_of rule m c) (after_call rule m c)
  single c h e = ((step rule law p m tells c h).0, subst (λ (x : Trace). Leads rule x (after_call rule m c)) (sym e) (m, leads, refl, refl, h))

  -- one that takes no time
  instant : {T : Type 0} (c : Call) (f : T → Outcome) (x : T) (v : Option Refusal) → (told (Ok (f x))).ticks ≡ 0 → spell p c (spoken f (judged v x)) (told (spoken f (judged v x))).ticks ≡ said p c (spoken f (judged v x))
  instant c f x None z = ap (spell p c (Ok (f x))) z
  instant c f x (Some why) z = refl

  tick_itself : (v : Option Refusal) → spell p Tick (spoken Ticked (judged v (ticked m))) (told (spoken Ticked (judged v (ticked m)))).ticks ≡ said p Tick (spoken Ticked (judged v (ticked m)))
  tick_itself None = refl
  tick_itself (Some why) = refl

  advance_goes : (n : ℕ) → Goes (Advance n) (answer_of rule m (Advance n)) (after_call rule m (Advance n))
  advance_goes n =
      let a : Option Refusal → Answer = λ v. spoken Advanced (judged v (advanced m n)) in
      let z : Option Refusal → Model = λ v. changed v m (turns (span m n) m) in
      let r = by_check (advance_refusal m n) (λ v. Judged v ((t : ManyTicks) × (a v ≡ Ok (Advanced t)) × Leaps n t) (a v) × Leads rule (spell p (Advance n) (a v) (told (a v)).ticks) (z v))
      (λ none.
      let x = refuse_none (outside n horizon) AdvanceCount _ none in
      let y = refuse_none (leb horizon m.clock) ClockAtHorizon None x.1 in
      let l = (largest m n (subst (λ (t : ℕ). Sound t m.slots) (sym tells.clock) tells.explains.sound) (inside n horizon x.0).0 (leb-false horizon m.clock y.0)).allowed in
      ((advanced m n, refl, (l.some, l.within)), leaps rule p m leads n (span m n) l))
      (λ why is. (refl, (m, leads, sym (ap a is), sym (ap z is), refl))) in
      (subst (λ (t : ℕ). Judged (advance_check n t) ((t : ManyTicks) × (a (advance_refusal m n) ≡ Ok (Advanced t)) × Leaps n t) (a (advance_refusal m n))) tells.clock r.0, r.1)

  goes : (c : Call) → Goes c (answer_of rule m c) (after_call rule m c)
  goes (Admit s c) = single (Admit s c) refl (instant (Admit s c) (λ _. Done) (tt {0}) (admit_refusal m s c) refl)
  goes (Leave s) = single (Leave s) refl (instant (Leave s) (λ _. Done) (tt {0}) (leave_refusal m s) refl)
  goes (Start s asked) =
      let k = arriving m asked.load asked.limit asked.period in
      single (Start s asked) refl (instant (Start s asked) Started (forecast rule k) (start_refusal rule m s k) refl)
  goes Tick = single Tick refl (tick_itself (tick_refusal m))
  goes (Advance n) = advance_goes n

-- the trace in single ticks leads to the same board
spelt_leads : (rule : Meaning) → WithinShare rule → (p : Trace) (m : Model) → Ran rule p m → Leads rule (spelt p) m
spelt_leads rule law nothing m h = h
spelt_leads rule law (said p c a) m h =
    let r = (goes rule law (spelt p) h.0 (spelt_leads rule law p h.0 h.1) c).1 in
    subst (λ (b : Answer). Leads rule (spell (spelt p) c b (told b).ticks) m) (sym h.2) (subst (Leads rule (spell (spelt p) c (answer_of rule h.0 c) (told (answer_of rule h.0 c)).ticks)) (sym h.3) r)

-- a board that was played is sound
pub ran_sound : (rule : Meaning) → WithinShare rule → (p : Trace) (m : Model) → Ran rule p m → Sound m.clock m.slots
ran_sound rule law p m h =
    let e = explained rule law (spelt p) m (spelt_leads rule law p m h) in
    subst (λ (t : ℕ). Sound t m.slots) (sym e.clock) e.explains.sound

-- a beginning of what was played was played too
began : (rule : Meaning) (q all : Trace) (m : Model) → Begins q all → Ran rule all m → (n : Model) × Ran rule q n
began rule = led_by (Ran rule) (λ p c a m l. (l.0, l.1))

-- the law of a trace that was played
pub kept : (rule : Meaning) → WithinShare rule → (all : Trace) (m : Model) → Ran rule all m → Kept rule all
kept rule law all m h = record {
  law = share_of rule law (spelt all) m (spelt_leads rule law all m h);
  answers_by_checks = λ q c a b.
      let l = (began rule (said q c a) all m b h).1 in
      subst (ByChecks rule (spelt q) c) (sym l.2) (goes rule law (spelt q) l.0 (spelt_leads rule law q l.0 l.1) c).0;
}

-- what a list of calls leaves
abbrev pub after_calls : Meaning → Model → List Call → Model
after_calls rule m [] = m
after_calls rule m (c ∷ cs) = after_calls rule (after_call rule m c) cs

ran_on : (rule : Meaning) (p : Trace) (m : Model) (cs : List Call) → Ran rule p m → Ran rule (heard p cs (answers_of rule m cs)) (after_calls rule m cs)
ran_on rule p m [] l = l
ran_on rule p m (c ∷ cs) l = ran_on rule (said p c (answer_of rule m c)) (after_call rule m c) cs (m, l, refl, refl)

answers_each : (rule : Meaning) (m : Model) (cs : List Call) → length (answers_of rule m cs) ≡ length cs
answers_each rule m [] = refl
answers_each rule m (c ∷ cs) = ap suc (answers_each rule (after_call rule m c) cs)

-- the answers of a new board to any list of calls keep the law
pub share_holds : (rule : Meaning) → WithinShare rule → (cs : List Call) → Shares rule cs (answers_of rule fresh cs)
share_holds rule law cs = record { each = answers_each rule fresh cs; kept = kept rule law (heard nothing cs (answers_of rule fresh cs)) (after_calls rule fresh cs) (ran_on rule nothing fresh cs refl) }

-- once none is to come, the answers so far are all, and keep the law
pub all_answered : (rule again : Meaning) → WithinShare rule → (m : Model) (cs : List Call) (i : ℕ) (answers : List Answer) →
    length cs ≤ i → again ≡ rule → answers ++ answers_of again m (drop i cs) ≡ answers_of again fresh cs → Shares rule cs answers
all_answered rule again law m cs i answers l same all =
    let is : answers ≡ answers_of rule fresh cs =
    sym (ap (λ (bs : List Answer). answers ++ bs) (at_drop_all (answers_of again m) cs i l) ∙ append-nil answers) ∙ all ∙ ap (λ (x : Meaning). answers_of x fresh cs) same in
    rw is (share_holds rule law cs)
