-- How an action that arrives is answered.
use Rattle.std.specs.Prelude.{ℕ, Some, None, Ok, Err, Option, Result, nat_lt}
use Rattle.limits.specs.Checks.{refuse}
use Rattle.limits.specs.Ranges.{horizon}
use Rattle.limits.specs.declared.refusal.Refusal.{Refusal}
use Rattle.limits.specs.declared.refusal.Refusal.TheVariants.{ForecastPastHorizon}
use Rattle.release.specs.Actions.{Action, Meaning, first_amount_of, first_boundary_of, forecast}
use Rattle.release.specs.Forecasts.{values_check}
use Rattle.release.specs.declared.opening.Opening.{Opening}
use Rattle.std.specs.Option.{option_or}

-- the values in their order, then the forecast end
abbrev pub opening_check : Meaning → Action → Option Refusal
opening_check rule k = option_or (values_check k) (refuse (nat_lt horizon (forecast rule k)) ForecastPastHorizon None)

abbrev pub opening_of : Meaning → Action → Opening
opening_of rule k = record { boundary = first_boundary_of k; amount = first_amount_of rule k; end = forecast rule k }

-- x where no check refuses
abbrev pub answered : {T : Type 0} → Option Refusal → T → Result T Refusal
answered None x = Ok x
answered (Some why) x = Err why

abbrev pub opening_answer : Meaning → Action → Result Opening Refusal
opening_answer rule k = answered (opening_check rule k) (opening_of rule k)

abbrev pub forecast_answer : Meaning → Action → Result ℕ Refusal
forecast_answer rule k = answered (opening_check rule k) (forecast rule k)
