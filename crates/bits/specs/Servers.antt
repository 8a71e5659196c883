-- Who is in a set of servers.
use Rattle.std.specs.Prelude.{◌≡◌, ℕ, zero, suc, ◌-◌, ◌≤◌, Bool, false, Some, None, Option, ◌==◌}
use Rattle.bits.specs.Words.{Lowest, bit}
use Rattle.bits.specs.declared.server_set.ServerSet.{ServerSet}

-- servers are numbered from 1 to 64
abbrev pub IsServer : ℕ → Type 0
IsServer s = (1 ≤ s) × (s ≤ 64)

-- the server s is in the set: its bit, s - 1, is set
abbrev pub has : ServerSet → ℕ → Bool
has set zero = false
has set (suc i) = bit set.word i == 1

-- s is the lowest server in the set, if there is one
abbrev pub FirstOf : ServerSet → Option ℕ → Type 0
FirstOf set None = set.word ≡ 0
FirstOf set (Some s) = IsServer s × Lowest set.word (s - 1)
