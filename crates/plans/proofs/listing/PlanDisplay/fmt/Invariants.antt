use Rattle.plans.proofs.listing.PlanDisplay.fmt.Given as goal
use Rattle.plans.specs.Listing.{server_lines}
use Rattle.std.proofs.Common.{take}
use Rattle.std.specs.Fmt.{HasWritten, IsPlainFormatter}
use Rattle.std.specs.List.{flat_map}

abbrev pub invariant-loop-server : goal.invariant-loop-server
invariant-loop-server g l =
    IsPlainFormatter l.initial.f → HasWritten g.W.Write.write_str_gives l.initial.f (flat_map server_lines (take l.server-index l.server-items)) l.f
