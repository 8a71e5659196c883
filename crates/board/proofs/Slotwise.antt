-- What a change of one slot leaves as it is.
use Rattle.std.proofs.Common.{◌≡◌, ℕ, zero, suc, ◌<◌, ◌≤◌, List, [], ◌∷◌, length, get_or, set, Ok, Result, inl, inr, arith, get_or-set_other, get_or-set_same}
use Rattle.limits.specs.declared.refusal.Refusal.{Refusal}
use Rattle.std.proofs.lemmas.Bool.{cases_eq}
use Rattle.slots.specs.declared.slot.Slot.{Slot}
use Rattle.slots.specs.declared.slot.Slot.TheVariants.{Absent, Resting, Working}
use Rattle.slots.specs.Slots.{cap_of, total}
use Rattle.board.specs.Fits.{resting_cap_of}

pub each_set : (P : Slot → Type 0) (xs : List Slot) (i : ℕ) (v : Slot) → i < length xs → P v → ((j : ℕ) → P (get_or xs j Absent)) → (j : ℕ) → P (get_or (set xs i v) j Absent)
each_set P xs i v l p h j = elim (cases_eq j i) [
  | inl u ↦ rw (u, get_or-set_same xs i v Absent l) p
  | inr u ↦ rw (get_or-set_other xs i j v Absent u) (h j)
]

pub cap_of_le : (xs : List Slot) (i : ℕ) → cap_of (get_or xs i Absent) ≤ total cap_of xs
cap_of_le [] i = omega arith
cap_of_le (x ∷ xs) zero = omega arith
cap_of_le (x ∷ xs) (suc i) = omega (arith, cap_of_le xs i)

pub resting_is : (x : Slot) (c : ℕ) → ◌≡◌ {A = Result ℕ Refusal} (Ok c) (resting_cap_of x) → x ≡ Resting c
resting_is Absent c h = cc
resting_is (Resting d) c h = cc
resting_is (Working w) c h = cc
