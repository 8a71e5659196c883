-- Lists of slots by place: sets of servers, and what a tick makes of one slot.
use Rattle.std.proofs.lemmas.Grind.{common_steps}
use Rattle.std.proofs.Common.{◌≡◌, ℕ, zero, suc, ◌+◌, ◌*◌, ◌/◌, ◌%◌, Bool, true, false, cond, eqb, List, [], ◌∷◌, map, length, get_or, Some, None, Option, sym, refl, ap, ◌∙◌, arith}
use Rattle.std.specs.List.{AllByRecursion}
use Rattle.std.proofs.lemmas.List.{length-set}
use Rattle.std.proofs.lemmas.Bool.{eq-eqb, ne_eqb, both_ways}
use Rattle.slots.specs.declared.slot.Slot.{Slot}
use Rattle.slots.specs.declared.slot.Slot.TheVariants.{Absent, Resting, Working}
use Rattle.slots.specs.Slots.{waits, pick, Picked, served, served_at}
use Rattle.bits.proofs.Bits.{bit_of_zero}
use Rattle.bits.specs.Words.{bit}
use Rattle.slots.specs.Members.{has, is_server}
use Rattle.slots.specs.Steps.{Model, ServesAtWork, mask, number, ticked, works}
use Rattle.slots.proofs.Picking.{pick_tells}

front : (b : Bool) (n : ℕ) → (cond b 1 0 + 2 * n) / 2 ≡ n
front true n = omega arith
front false n = omega arith

last : (b : Bool) (n : ℕ) → eqb ((cond b 1 0 + 2 * n) % 2) 1 ≡ b
last true n = eq-eqb ((1 + 2 * n) % 2) 1 (omega arith)
last false n = ne_eqb ((0 + 2 * n) % 2) 1 (omega arith)

-- who is in the set
pub has_mask : (P : Slot → Bool) → P Absent ≡ false → (xs : List Slot) (i : ℕ) → has (record { word = mask P xs }) (suc i) ≡ P (get_or xs i Absent)
has_mask P h [] i = ap (λ n. eqb n 1) (bit_of_zero i) ∙ sym h
has_mask P h (x ∷ xs) zero = last (P x) (mask P xs)
has_mask P h (x ∷ xs) (suc i) = ap (λ n. eqb (bit n i) 1) (front (P x) (mask P xs)) ∙ has_mask P h xs i

pub mask_none : (P : Slot → Bool) (xs : List Slot) → AllByRecursion (λ x. P x ≡ false) xs → mask P xs ≡ 0
mask_none P [] a = refl
mask_none P (x ∷ xs) a = let r = mask_none P xs a.1 in rw a.0 (omega arith)

pub all_at : (P : Slot → Type 0) → P Absent → (xs : List Slot) → AllByRecursion P xs → (i : ℕ) → P (get_or xs i Absent)
all_at P h [] a i = h
all_at P h (x ∷ xs) a zero = a.0
all_at P h (x ∷ xs) a (suc i) = all_at P h xs a.1 i

pub get_d_map : (f : Slot → Slot) (xs : List Slot) (i : ℕ) → f Absent ≡ Absent → get_or (map f xs) i Absent ≡ f (get_or xs i Absent)
get_d_map f [] i h = sym h
get_d_map f (x ∷ xs) zero h = refl
get_d_map f (x ∷ xs) (suc i) h = get_d_map f xs i h

pub length_serve : (xs : List Slot) (o : Option ℕ) → length (served_at xs o) ≡ length xs
length_serve xs None = refl
length_serve xs (Some i) = length-set xs i (served (get_or xs i Absent))

-- the slot i, once the tick has served
pub served_here : (xs : List Slot) (o : Option ℕ) (i : ℕ) → Picked xs o → get_or (served_at xs o) i Absent ≡ cond (is_server (number o) (suc i)) (served (get_or xs i Absent)) (get_or xs i Absent)
served_here xs None i p = refl
served_here xs (Some j) i p = grind (arith, common_steps)

-- who is served waits
pub served_waits : (xs : List Slot) (o : Option ℕ) (i : ℕ) → Picked xs o → is_server (number o) (suc i) ≡ true → waits (get_or xs i Absent) ≡ true
served_waits xs None i p h = absurd (both_ways false refl h)
served_waits xs (Some j) i p h = grind (arith, common_steps)

pub waits_works : (x : Slot) → waits x ≡ true → works x ≡ true
waits_works Absent h = h
waits_works (Resting c) h = h
waits_works (Working w) h = refl

picked_works : (m : Model) (o : Option ℕ) → Picked m.slots o → ServesAtWork m (number o)
picked_works m None p = tt
picked_works m (Some i) p = grind (arith, common_steps)

-- and has an action at work
pub serves_at_work_lem : (m : Model) → ServesAtWork m (ticked m).served
serves_at_work_lem m = picked_works m (pick m.slots) (pick_tells m.slots)
