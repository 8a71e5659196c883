use Rattle.sheets.proofs.forecasts.ForecastsDisplay.fmt.Given as goal
use Rattle.sheets.specs.Forecasts.{server_forecasts}
use Rattle.std.proofs.Common.{take}
use Rattle.std.specs.Fmt.{HasWritten, IsPlainFormatter}
use Rattle.std.specs.List.{flat_map}

abbrev pub invariant-loop-server : goal.invariant-loop-server
invariant-loop-server g l =
    IsPlainFormatter l.initial.f → HasWritten g.W.Write.write_str_gives l.initial.f (flat_map server_forecasts (take l.server-index l.server-items)) l.f
