-- The row of an action's stretches, and where it ends.
use Rattle.std.specs.Prelude.{◌≡◌, ℕ, zero, suc, ◌+◌, ◌-◌, ◌<◌, min, cond, List, [], ◌∷◌, ◌++◌, length, take, sum_by, nat_lt}
use Rattle.release.specs.Actions.{Action, Meaning, boundary, first_amount_of, first_boundary_of}

-- a part of an action, and the ticks owed in it
pub record Stretch : Type 0 where
  pub begin : ℕ
  pub end : ℕ
  pub amount : ℕ

-- the load that is left after some stretches
abbrev pub left : Action → List Stretch → ℕ
left k xs = k.load - sum_by (λ x. x.amount) xs

-- the stretch from the arrival to the first boundary
abbrev pub opening_stretch : Meaning → Action → Stretch
opening_stretch rule k = record { begin = k.arrival; end = first_boundary_of k; amount = min k.load (first_amount_of rule k) }

-- it is missing where the arrival is the boundary
abbrev pub opening_row : Meaning → Action → List Stretch
opening_row rule k = cond (nat_lt k.arrival (first_boundary_of k)) (opening_stretch rule k ∷ []) []

-- the stretch from the boundary j to the next, after the stretches xs
abbrev pub later_stretch : Action → ℕ → List Stretch → Stretch
later_stretch k j xs = record { begin = boundary k j; end = boundary k (suc j); amount = min k.limit (left k xs) }

-- the stretches up to the boundary n
abbrev pub row : Meaning → Action → ℕ → List Stretch
row rule k zero = opening_row rule k
row rule k (suc n) = row rule k n ++ later_stretch k n (row rule k n) ∷ []

-- e is the end of the first stretch of the row after which no load is left
pub record EndsAt (rule : Meaning) (k : Action) (e : ℕ) : Type 0 where
  pub up_to : ℕ
  pub before : List Stretch
  pub last : Stretch
  pub parts : row rule k up_to ≡ before ++ last ∷ []
  pub end : last.end ≡ e
  pub none : left k (before ++ last ∷ []) ≡ 0
  pub some : (i : ℕ) → i < length before → 0 < left k (take (i + 1) before)
