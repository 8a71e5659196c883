-- What the opening of an action says, once its values are in range.
use Rattle.std.proofs.Common.{◌≡◌, ◌≤◌, Some, None, Ok, Err, Option, ap, ◌∙◌, inl, inr, arith}
use Rattle.limits.specs.Ranges.{horizon}
use Rattle.limits.specs.declared.refusal.Refusal.{Refusal}
use Rattle.release.proofs.Opens.{check_none, check_past}
use Rattle.release.specs.Actions.{Action, Meaning, forecast}
use Rattle.release.specs.Forecasts.{values_check}
use Rattle.release.specs.Openings.{answered, opening_answer, opening_of}
use Rattle.release.specs.declared.opening.Opening.{Opening}
use Rattle.std.proofs.lemmas.Bool.{cases_lt}

ok_some : (x : Opening) {o : Opening} {check : Option Refusal} {why : Refusal} → check ≡ Some why → Ok o ≡ answered check x → ⊥
ok_some x {o} {check} {why} c h = let z : Ok o ≡ Err why = h ∙ ap (λ (w : Option Refusal). answered w x) c in grind arith

ok_is : (x : Opening) {o : Opening} {check : Option Refusal} → check ≡ None → Ok o ≡ answered check x → o ≡ x
ok_is x {o} {check} c h = let z : Ok o ≡ Ok x = h ∙ ap (λ (w : Option Refusal). answered w x) c in cc

pub opening_made : (rule : Meaning) (k : Action) → values_check k ≡ None → (o : Opening) → Ok o ≡ opening_answer rule k → (o ≡ opening_of rule k) × (forecast rule k ≤ horizon)
opening_made rule k v o h = elim (cases_lt horizon (forecast rule k)) [
  | inl l ↦ absurd (ok_some (opening_of rule k) (check_past rule k v l) h)
  | inr l ↦ (ok_is (opening_of rule k) (check_none rule k v l) h, l)
]
