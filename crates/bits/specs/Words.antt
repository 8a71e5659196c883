-- The bits of a word, numbered from 0.
use Rattle.std.specs.Prelude.{◌≡◌, ℕ, zero, suc, ◌/◌, ◌%◌, ◌<◌, ◌≤◌, ◌≢◌, Some, None, Option}

-- bit i of x, 0 or 1
abbrev pub bit : ℕ → ℕ → ℕ
bit x zero = x % 2
bit x (suc i) = bit (x / 2) i

-- r is x with bit i set; x itself where a word has no bit i
pub record Set (x i r : ℕ) : Type 0 where
  pub here : i < 64 → bit r i ≡ 1
  pub others : (j : ℕ) → j ≢ i → bit r j ≡ bit x j
  pub stays : 64 ≤ i → r ≡ x

-- r is x with bit i cleared
pub record Cleared (x i r : ℕ) : Type 0 where
  pub here : bit r i ≡ 0
  pub others : (j : ℕ) → j ≢ i → bit r j ≡ bit x j

-- i is the lowest set bit of x
pub record Lowest (x i : ℕ) : Type 0 where
  pub set : bit x i ≡ 1
  pub below : (j : ℕ) → j < i → bit x j ≡ 0

-- the lowest set bit, if any is set
abbrev pub LowestOf : ℕ → Option ℕ → Type 0
LowestOf x None = x ≡ 0
LowestOf x (Some i) = (i < 64) × Lowest x i
