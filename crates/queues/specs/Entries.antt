-- Entries and their order.
use Rattle.std.specs.Prelude.{◌≤◌, Bool}
use Rattle.heaps.specs.Orders.{at_or_before}
use Rattle.limits.specs.Ranges.{horizon, servers}
use Rattle.std.specs.Ordering.{nat_cmp, on, then_cmp}
use Rattle.queues.specs.declared.entry.Entry.{Entry}

-- by instant, and at one instant by server
abbrev pub entry_order : Entry → Entry → Bool
entry_order = at_or_before (then_cmp (on (λ e. e.instant) nat_cmp) (on (λ e. e.server) nat_cmp))

-- what stands where there is no entry
abbrev pub nobody : Entry
nobody = record { instant = 0; server = 0 }

-- of a server, and not past the horizon
abbrev pub Proper : Entry → Type 0
Proper e = (1 ≤ e.server) × (e.server ≤ servers) × (e.instant ≤ horizon)
