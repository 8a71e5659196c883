-- Lists of things that are known by a number.
use Rattle.std.specs.Prelude.{ℕ, Bool, true, not, ◌&&◌, List, [], ◌∷◌, find, Option, ◌==◌}
use Rattle.std.specs.List.{list_any}

-- the first that has the number n
abbrev pub numbered : {T : Type 0} → (T → ℕ) → ℕ → List T → Option T
numbered number n xs = find (λ x. number x == n) xs

-- one of them has the number n
abbrev pub has : {T : Type 0} → (T → ℕ) → ℕ → List T → Bool
has number n xs = list_any (λ x. number x == n) xs

-- no number stands twice
abbrev pub distinct : {T : Type 0} → (T → ℕ) → List T → Bool
distinct number [] = true
distinct number (x ∷ xs) = not (has number (number x) xs) && distinct number xs
