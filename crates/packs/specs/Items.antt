-- The items of a pack.
use Rattle.std.specs.Prelude.{◌≡◌, ℕ, zero, suc, ◌+◌, ◌<◌, ◌≤◌, cond, List, [], ◌∷◌, length, take, drop, Option, MatchOption, nat_le}
use Rattle.std.specs.Borrow.{Bor}
use Rattle.std.specs.Int.{from_le_bytes, w32}

-- the length in the first four bytes
abbrev pub size_of : List ℕ → ℕ
size_of pack = from_le_bytes w32 (take 4 pack)

-- the item of that length, and what follows it; none where the pack ends before
abbrev pub Split : List ℕ → Option (Bor (List ℕ) × Bor (List ℕ)) → Type 0
Split pack r =
    MatchOption r (length pack < 4 + size_of pack)
    (λ x. (x.0.now ≡ take (size_of pack) (drop 4 pack)) × (x.1.now ≡ drop (4 + size_of pack) pack) × (4 + size_of pack ≤ length pack))

-- the items of a pack, up to the first that is not whole, and no more than n
abbrev pub first_items : ℕ → List ℕ → List (List ℕ)
first_items zero pack = []
first_items (suc n) pack = cond (nat_le (4 + size_of pack) (length pack)) (take (size_of pack) (drop 4 pack) ∷ first_items n (drop (4 + size_of pack) pack)) []

-- all of them: each has four bytes at least
abbrev pub items : List ℕ → List (List ℕ)
items pack = first_items (length pack) pack
