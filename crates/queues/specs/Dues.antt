-- What a queue means: for each server the instant of its entry, if it has one.
use Rattle.std.specs.Prelude.{◌≡◌, ℕ, ◌≤◌, Some, None, Option, ◌≢◌}
use Rattle.limits.specs.Ranges.{horizon, servers}
use Rattle.queues.specs.declared.entry.Entry.{Entry}

abbrev pub Due : Type 0
Due = ℕ → Option ℕ

-- no server has an entry
abbrev pub Empty : Due → Type 0
Empty f = (k : ℕ) → f k ≡ None

-- only servers have entries, and none past the horizon
abbrev pub Within : Due → Type 0
Within f = (k t : ℕ) → f k ≡ Some t → (1 ≤ k) × (k ≤ servers) × (t ≤ horizon)

-- one entry more: the server s has one at t, and the others have what they had
abbrev pub Put : Due → Due → ℕ → ℕ → Type 0
Put f g s t = (g s ≡ Some t) × ((k : ℕ) → (k ≢ s) → g k ≡ f k)

-- e is at or before an entry of the server k at t: by instant, and at one instant by server
abbrev pub Before : Entry → ℕ → ℕ → Type 0
Before e t k = (e.instant ≤ t) × (e.instant ≡ t → e.server ≤ k)

-- the first entry: one that is there, and at or before each; none where no server has one
abbrev pub First : Due → Option Entry → Type 0
First f None = Empty f
First f (Some e) = (f e.server ≡ Some e.instant) × ((k t : ℕ) → f k ≡ Some t → Before e t k)

-- one entry less: that server has none, and the others have what they had
abbrev pub Taken : Due → Due → Option Entry → Type 0
Taken f g None = (k : ℕ) → g k ≡ f k
Taken f g (Some e) = (g e.server ≡ None) × ((k : ℕ) → (k ≢ e.server) → g k ≡ f k)
