-- Which check an action that arrives fails.
use Rattle.std.proofs.Common.{◌≡◌, ◌<◌, ◌≤◌, Some, None}
use Rattle.limits.specs.Ranges.{horizon}
use Rattle.limits.specs.declared.refusal.Refusal.{Refusal}
use Rattle.limits.specs.declared.refusal.Refusal.TheVariants.{ForecastPastHorizon}
use Rattle.release.specs.Actions.{Action, Meaning, forecast}
use Rattle.release.specs.Forecasts.{values_check}
use Rattle.release.specs.Openings.{opening_check}
use Rattle.std.proofs.lemmas.Bool.{le-ltb, lt-ltb}

module _ (rule : Meaning) (k : Action) where
  pub check_values : (why : Refusal) → values_check k ≡ Some why → opening_check rule k ≡ Some why
  check_values why h = simp h

  pub check_past : values_check k ≡ None → horizon < forecast rule k → opening_check rule k ≡ Some ForecastPastHorizon
  check_past h l = simp (h, lt-ltb horizon (forecast rule k) l)

  pub check_none : values_check k ≡ None → forecast rule k ≤ horizon → opening_check rule k ≡ None
  check_none h l = simp (h, le-ltb horizon (forecast rule k) l)
