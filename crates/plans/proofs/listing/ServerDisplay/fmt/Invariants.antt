use Rattle.plans.proofs.listing.ServerDisplay.fmt.Given as goal
use Rattle.plans.specs.Listing.{action_line_of}
use Rattle.std.proofs.Common.{take}
use Rattle.std.specs.Fmt.{HasWritten, IsPlainFormatter}
use Rattle.std.specs.List.{flat_map}

abbrev pub invariant-loop-action : goal.invariant-loop-action
invariant-loop-action g l =
    IsPlainFormatter l.initial.f → HasWritten g.W.Write.write_str_gives l.initial.f (flat_map action_line_of (take l.action-index l.action-items)) l.f
