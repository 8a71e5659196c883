-- Who is in a set of servers, and who was served.
use Rattle.std.specs.Prelude.{ℕ, Bool, false, Some, None, Option, ◌==◌}
pub use Rattle.bits.specs.Servers.{has}
use Rattle.slots.specs.declared.sets.Sets.{Sets}

-- it is the server s
abbrev pub is_server : Option ℕ → ℕ → Bool
is_server None s = false
is_server (Some t) s = t == s

-- nobody is released, has ended or is late
abbrev pub nobody : Sets
nobody = record { released = record { word = 0 }; ended = record { word = 0 }; late = record { word = 0 } }
