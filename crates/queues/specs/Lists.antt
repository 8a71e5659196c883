-- What a list of entries means, in whatever order it stands.
use Rattle.std.specs.Prelude.{ℕ, ◌≤◌, cond, List, [], ◌∷◌, Some, None, sum_by, ◌==◌}
use Rattle.queues.specs.Dues.{Due}
use Rattle.queues.specs.declared.entry.Entry.{Entry}

-- the instant of the server's entry
abbrev pub sought : List Entry → Due
sought [] s = None
sought (e ∷ es) s = cond (e.server == s) (Some e.instant) (sought es s)

-- 1 for an entry of the server
abbrev pub one : ℕ → Entry → ℕ
one s e = cond (e.server == s) 1 0

-- no server has two entries
abbrev pub Distinct : List Entry → Type 0
Distinct xs = (s : ℕ) → sum_by (one s) xs ≤ 1
