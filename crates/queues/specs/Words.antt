-- Sets of servers as words: bit s - 1 for the server s.
use Rattle.std.specs.Prelude.{◌≡◌, ℕ, ◌+◌}
use Rattle.bits.specs.Words.{bit}
use Rattle.queues.specs.Dues.{Due}
use Rattle.queues.specs.Sizes.{weight}

-- the word has a bit for each server that has an entry
abbrev pub Worded : Due → ℕ → Type 0
Worded f word = (p : ℕ) → bit word p ≡ weight (f (p + 1))
