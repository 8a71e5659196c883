-- Where an entry goes.
use Rattle.std.specs.Prelude.{◌≡◌, ℕ, ◌+◌, ◌<◌, ◌≤◌, Bool, true, false, Some, ◌≢◌}
use Rattle.windows.specs.Marked.{Parts, near}

-- whether an entry is marked: while nothing is, the window begins with it
abbrev pub Offered : Parts → Parts → ℕ → Bool → Type 0
Offered m m' t true = (m.summary ≡ 0 → m'.base ≡ t) × ((m.summary ≢ 0) → (m'.base ≡ m.base) × (m.base ≤ t) × (t < m.base + 64))
Offered m m' t false = (m.summary ≢ 0) × (m.base ≤ t → m.base + 64 ≤ t)

-- where an accepted entry goes: to the marks if it is one of the 64 instants, which begin with it while nothing is marked, else below
pub record Placing (m m' : Parts) (s t : ℕ) : Type 0 where
  pub begins : m.summary ≡ 0 → (m'.base ≡ t) × (near m' s ≡ Some t)
  pub inside : (m.summary ≢ 0) → m.base ≤ t → t < m.base + 64 → (m'.base ≡ m.base) × (near m' s ≡ Some t)
  pub outside : (m.summary ≢ 0) → (m.base ≤ t → m.base + 64 ≤ t) → m' ≡ m
