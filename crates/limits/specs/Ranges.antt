-- The ranges of the subject.
use Rattle.std.specs.Prelude.{ℕ, Bool, ◌||◌, nat_lt}

-- the last instant
abbrev pub horizon : ℕ
horizon = 1_000_000_000_000

-- servers are numbered from 1 to this
abbrev pub servers : ℕ
servers = 64

-- the whole processor, in the unit of caps
abbrev pub unit : ℕ
unit = 1_000_000

-- the most ticks of a load or a period
abbrev pub most_ticks : ℕ
most_ticks = 1_000_000

-- n is not one of 1 .. top
abbrev pub outside : ℕ → ℕ → Bool
outside n top = nat_lt n 1 || nat_lt top n
