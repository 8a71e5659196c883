-- Release rules: how much of the first, partial period an action may already use.
use Rattle.std.specs.Prelude.{ℕ, ◌+◌, ◌-◌, ◌*◌, ◌/◌, ◌<◌, ◌≤◌, Bool, cond, ◌&&◌, nat_le, nat_lt}
use Rattle.limits.specs.Ranges.{most_ticks}
use Rattle.release.specs.Actions.{Meaning}

-- 1 ≤ limit ≤ period ≤ most_ticks, and the boundary is at or after the arrival and less than a period later
abbrev pub in_range : ℕ → ℕ → ℕ → ℕ → Bool
in_range limit period arrival boundary =
    nat_le 1 limit && (nat_le limit period && (nat_le period most_ticks && (nat_le arrival boundary && nat_lt boundary (arrival + period))))

-- a first amount above 0 is no more than the limit's share of the time up to the boundary
abbrev pub WithinShare : Meaning → Type 0
WithinShare rule = (limit period arrival boundary : ℕ) → 0 < rule limit period arrival boundary → rule limit period arrival boundary * period ≤ limit * (boundary - arrival)

-- nothing before the first boundary
abbrev pub late : Meaning
late limit period arrival boundary = 0

-- the limit's share of the time up to the boundary, rounded down; nothing out of range
abbrev pub early : Meaning
early limit period arrival boundary = cond (in_range limit period arrival boundary) (limit * (boundary - arrival) / period) 0
