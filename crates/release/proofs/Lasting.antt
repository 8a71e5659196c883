-- The law of the forecast.
use Rattle.release.proofs.Boundaries.{no_less, no_more, turns, turns_complete}
use Rattle.release.proofs.Rowing.{row_ends, row_once}
use Rattle.release.proofs.Values.{ranged}
use Rattle.release.specs.Actions.{Meaning, forecast}
use Rattle.release.specs.Forecasts.{ForecastLaw}
use Rattle.release.specs.Rules.{WithinShare}

pub forecast_law : (rule : Meaning) → WithinShare rule → ForecastLaw rule
unfolding forecast
forecast_law rule law k h =
    let r = ranged k h in
    let c = turns_complete rule k r.limit_low in
    record {
      ends = row_ends rule k r.load_low (turns rule k) c;
      only = row_once rule k r.load_low r.limit_low;
      at_least = no_less rule k r.limit_low r.period_low (turns rule k) c law;
      at_most = no_more rule k r.limit_low r.period_low (turns rule k) c;
    }
