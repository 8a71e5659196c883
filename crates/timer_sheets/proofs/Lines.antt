-- The lines of the sheet, one after another.
use Rattle.std.proofs.Common.{◌≡◌, ℕ, zero, suc, ◌+◌, ◌-◌, ◌<◌, ◌≤◌, true, false, cond, ltb, List, [], ◌∷◌, ◌++◌, Some, None, Option, sym, refl, ap, ◌∙◌, ⊎_elim, arith}
use Rattle.limits.specs.Ranges.{horizon}
use Rattle.plans.specs.declared.plan.Plan.{Plan}
use Rattle.release.specs.Actions.{Meaning}
use Rattle.scripts.specs.declared.line.Line.{Line}
use Rattle.timer_sheets.specs.Sheets.{left_by, next_run, runs, sheet_from, shown, stride}
use Rattle.timer_sheets.specs.Timely.{Timely}
use Rattle.timer_sheets.specs.declared.line.SheetLine.{SheetLine}
use Rattle.slots.proofs.Spans.{spans, turns_clock}
use Rattle.slots.proofs.Ticking.{ticking}
use Rattle.slots.specs.Advances.{turns}
use Rattle.slots.specs.Slots.{Sound}
use Rattle.slots.specs.Steps.{Model, moved}
use Rattle.std.proofs.lemmas.Bool.{cases_Bool, cond-false, cond-true, le-ltb, lt-ltb, ltb-true}
use Rattle.std.specs.Option.{option_to_list}

abbrev pub Well : Model → Type 0
Well m = Sound m.clock m.slots

-- a run makes one tick at least, and none past the instant
pub strides : (m : Model) (t : ℕ) → Well m → m.clock < t → t ≤ horizon → (1 ≤ stride m t) × (stride m t ≤ t - m.clock)
strides m t w l h = let s = spans m (t - m.clock) w (omega arith) (omega arith) in (s.some, s.within)

turns_well : (k : ℕ) (m : Model) → Well m → Well (turns k m)
turns_well zero m w = w
turns_well (suc k) m w = ticking (turns k m).clock (turns k m).slots (turns_well k m w)

pub turns_add : (a b : ℕ) (m : Model) → turns a (turns b m) ≡ turns (a + b) m
turns_add zero b m = let e : b ≡ 0 + b = omega arith in ap (λ n. turns n m) e
turns_add (suc a) b m = let e : suc (a + b) ≡ suc a + b = omega arith in ap moved (turns_add a b m) ∙ ap (λ n. turns n m) e

-- as many runs as there are ticks are enough
runs_same : (n d t : ℕ) (m : Model) → Well m → t ≤ horizon → t - m.clock ≤ n → t - m.clock ≤ d → runs n t m ≡ runs d t m
runs_same zero zero t m w h p q = refl
runs_same zero (suc d) t m w h p q = sym (cond-false _ _ _ (le-ltb m.clock t (omega arith)))
runs_same (suc n) zero t m w h p q = cond-false _ _ _ (le-ltb m.clock t (omega arith))
runs_same (suc n) (suc d) t m w h p q =
    ⊎_elim
    (λ (e : ltb m.clock t ≡ true).
    let l = ltb-true m.clock t e in
    let s = strides m t w l h in
    let some = s.0 in
    let c = turns_clock (stride m t) m in
    let rest = runs_same n d t (turns (stride m t) m) (turns_well (stride m t) m w) h (omega arith) (omega arith) in
    ap (λ (x : List SheetLine). cond (ltb m.clock t) (next_run m t ∷ x) []) rest)
    (λ (e : ltb m.clock t ≡ false). cond-false _ _ _ e ∙ sym (cond-false _ _ _ e))
    (cases_Bool (ltb m.clock t))

module _ (rule : Meaning) (p : Plan) (m : Model) (l : Line) (ls : List Line) where
  -- what comes once the board z is at the line's instant
  abbrev Called : Model → List SheetLine
  Called z = option_to_list (shown rule p z l.instant l.command) ++ sheet_from rule p (left_by rule p z l.command) ls

  -- before the line's instant a run comes first
  run_first : Well m → m.clock < l.instant → l.instant ≤ horizon → sheet_from rule p m (l ∷ ls) ≡ next_run m l.instant ∷ sheet_from rule p (turns (stride m l.instant) m) (l ∷ ls)
  run_first w early h =
      let t = l.instant in
      let k = stride m t in
      let z = turns k m in
      let s = strides m t w early h in
      let c = turns_clock k m in
      let d = t - m.clock - 1 in
      let more : t - m.clock ≡ suc d = omega arith in
      let some = s.0 in
      let most = s.1 in
      let all : t - z.clock + k ≡ t - m.clock = omega arith in
      let first : runs (t - m.clock) t m ≡ next_run m t ∷ runs (t - z.clock) t z =
      ap (λ (n : ℕ). runs n t m) more
      ∙ cond-true _ _ _ (lt-ltb m.clock t early)
      ∙ ap (λ (x : List SheetLine). next_run m t ∷ x) (runs_same d (t - z.clock) t z (turns_well k m w) h (omega arith) (omega arith)) in
      let there : turns (t - z.clock) z ≡ turns (t - m.clock) m = turns_add (t - z.clock) k m ∙ ap (λ (n : ℕ). turns n m) all in
      ap (λ (x : List SheetLine). x ++ Called (turns (t - m.clock) m)) first
      ∙ ap (λ (y : Model). next_run m t ∷ (runs (t - z.clock) t z ++ Called y)) (sym there)

-- Before the instant of the line that is awaited a run comes first. The rule is the same after it.
pub run_comes : (rule again : Meaning) (p : Plan) (m after : Model) (awaited : Option Line) (l : Line) (ls : List Line) (clock : ℕ) (run : SheetLine) →
    Well m → Timely (option_to_list awaited ++ ls) → awaited ≡ Some l → clock ≡ m.clock → clock < l.instant → run ≡ next_run m l.instant → after ≡ turns (stride m l.instant) m → again ≡ rule →
    sheet_from rule p m (option_to_list awaited ++ ls) ≡ run ∷ sheet_from again p after (option_to_list awaited ++ ls)
run_comes rule again p m after None l ls clock run w t e c h is left same = absurd (cc)
run_comes rule again p m after (Some k) l ls clock run w t e c h is left same =
    let here : k ≡ l = cc in
    let at : k.instant ≡ l.instant = ap (λ (x : Line). x.instant) here in
    let first = run_first rule p m k ls w (omega arith) t.0 in
    cc
