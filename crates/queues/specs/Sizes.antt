-- How many entries a queue has.
use Rattle.std.specs.Prelude.{ℕ, zero, suc, ◌+◌, Some, None, Option}
use Rattle.queues.specs.Dues.{Due}

-- 1 for an entry that is there
abbrev pub weight : Option ℕ → ℕ
weight None = 0
weight (Some t) = 1

-- of the numbers below m, how many have an entry
unfoldable pub size : ℕ → Due → ℕ
size zero f = 0
size (suc m) f = weight (f m) + size m f
