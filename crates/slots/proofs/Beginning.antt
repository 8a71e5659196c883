-- The empty scheduler is sound.
use Rattle.std.proofs.Common.{◌≡◌, ℕ, zero, suc, replicate, refl, arith}
use Rattle.std.specs.List.{AllByRecursion}
use Rattle.slots.specs.declared.slot.Slot.{Slot}
use Rattle.slots.specs.declared.slot.Slot.TheVariants.{Absent}
use Rattle.slots.specs.Slots.{total, cap_of, demand, Fine, Sound}

none_there : (n t : ℕ) → AllByRecursion (Fine t) (replicate n Absent)
none_there zero t = tt
none_there (suc n) t = (tt, none_there n t)

nothing : (f : Slot → ℕ) → f Absent ≡ 0 → (n : ℕ) → total f (replicate n Absent) ≡ 0
nothing f h zero = refl
nothing f h (suc n) = let r = nothing f h n in omega arith

pub beginning : (t n : ℕ) → Sound t (replicate n Absent)
beginning t n = record {
  caps = let r = nothing cap_of refl n in omega arith;
  each = none_there n t;
  bound = λ d l. let r = nothing (demand d) refl n in omega arith;
}
