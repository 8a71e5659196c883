-- One tick of service.
use Rattle.std.proofs.lemmas.Grind.{common_steps}
use Rattle.std.proofs.Common.{◌≡◌, ℕ, suc, ◌+◌, ◌-◌, ◌*◌, ◌<◌, ◌≤◌, true, false, List, [], ◌∷◌, get_or, Some, None, Option, sym, refl, ◌∙◌, inl, inr, mul-suc, arith}
use Rattle.std.specs.List.{AllByRecursion}
use Rattle.std.proofs.lemmas.Bool.{both_ways, cases_lt}
use Rattle.std.proofs.ByRecursion.{All-weaker}
use Rattle.slots.specs.declared.slot.Slot.{Slot}
use Rattle.slots.specs.declared.slot.Slot.TheVariants.{Absent, Resting, Working}
use Rattle.limits.specs.Ranges.{unit}
use Rattle.slots.specs.Slots.{total, cap_of, busy, demand, waits, end_of, pick, Picked, served, served_at, serve, Fine, Bounded, Sound}
use Rattle.slots.proofs.Totals.{total_set, total_set_same, total_le_mul, all_both}
use Rattle.slots.proofs.Picking.{pick_tells}

pub served_busy : (s : Slot) → busy (served s) ≡ busy s
served_busy Absent = refl
served_busy (Resting c) = refl
served_busy (Working w) = refl

pub served_cap_of : (s : Slot) → cap_of (served s) ≡ cap_of s
served_cap_of Absent = refl
served_cap_of (Resting c) = refl
served_cap_of (Working w) = refl

pub served_fine : (t : ℕ) (s : Slot) → Fine t s → Fine t (served s)
served_fine t Absent h = tt
served_fine t (Resting c) h = h
served_fine t (Working w) h = omega arith

-- beyond the end of its stretch a slot claims a tick less
pub served_pays : (d : ℕ) (s : Slot) → waits s ≡ true → end_of s ≤ d → demand d (served s) + unit ≡ demand d s
served_pays d Absent e h = absurd (both_ways false refl e)
served_pays d (Resting c) e h = absurd (both_ways false refl e)
served_pays d (Working w) e h = grind (arith, common_steps)

-- before it, it claims nothing
pub early : (d : ℕ) (s : Slot) → d < end_of s → demand d s ≡ 0
early d Absent h = refl
early d (Resting c) h = refl
early d (Working w) h = grind (arith, common_steps)

pub served_end : (s : Slot) → end_of (served s) ≡ end_of s
served_end Absent = refl
served_end (Resting c) = refl
served_end (Working w) = refl

-- a slot that is owed nothing up to d claims no more than its cap_of of the time after the tick
quiet : (t d : ℕ) (s : Slot) → Fine t s × (waits s ≡ true → d < end_of s) → demand d s ≤ busy s * (d - (t + 1))
quiet t d Absent h = omega arith
quiet t d (Resting c) h = omega arith
quiet t d (Working w) h = grind (arith, common_steps)

busy_le_cap_of : (xs : List Slot) → total busy xs ≤ total cap_of xs
busy_le_cap_of [] = omega arith
busy_le_cap_of (Absent ∷ xs) = let r = busy_le_cap_of xs in omega arith
busy_le_cap_of (Resting c ∷ xs) = let r = busy_le_cap_of xs in omega arith
busy_le_cap_of (Working w ∷ xs) = let r = busy_le_cap_of xs in omega arith

-- a tick of the time of k caps
next : (k t d : ℕ) → t + 1 ≤ d → k * (d - t) ≡ k * (d - (t + 1)) + k
next k t d h = let e : d - t ≡ suc (d - (t + 1)) = omega arith in rw (e, mul-suc)

pub served_bound : (t : ℕ) (xs : List Slot) (o : Option ℕ) → Picked xs o → Sound t xs → Bounded (t + 1) (served_at xs o)
served_bound t xs None p s d h =
    total_le_mul (λ x. Fine t x × (waits x ≡ true → d < end_of x)) (demand d) busy (d - (t + 1)) (quiet t d) xs
    (all_both (Fine t) (λ x. waits x ≡ true → d < end_of x) xs s.each (All-weaker (λ x. waits x ≡ false) (λ x. waits x ≡ true → d < end_of x) (λ x f w. absurd (both_ways (waits x) f w)) xs p))
served_bound t xs (Some i) p s d h =
    let x = get_or xs i Absent in
    let same = total_set_same busy xs i (served x) Absent p.within (served_busy x) in
    elim (cases_lt d (end_of x)) [
      | inl l ↦
          let q = total_le_mul (λ x. Fine t x × (waits x ≡ true → d < end_of x)) (demand d) busy (d - (t + 1)) (quiet t d) xs
          (all_both (Fine t) (λ x. waits x ≡ true → d < end_of x) xs s.each (All-weaker (λ y. waits y ≡ true → end_of x ≤ end_of y) (λ y. waits y ≡ true → d < end_of y) (λ y f w. let g = f w in omega arith) xs p.least)) in
          let l' : d < end_of (served x) = rw served_end l in
          let still = total_set_same (demand d) xs i (served x) Absent p.within (early d (served x) l' ∙ sym (early d x l)) in
          rw (same, still) q
      | inr l ↦
          let pays = served_pays d x p.waiting l in
          let moved = total_set (demand d) xs i (served x) Absent p.within in
          let b = s.bound d (omega arith) in
          let n = next (total busy xs) t d h in
          let m = busy_le_cap_of xs in
          let c = s.caps in
          rw same (omega arith)
    ]

pub serve_bound : (t : ℕ) (xs : List Slot) → Sound t xs → Bounded (t + 1) (serve xs)
serve_bound t xs s = served_bound t xs (pick xs) (pick_tells xs) s

pub served_each : (t : ℕ) (xs : List Slot) (o : Option ℕ) → Picked xs o → AllByRecursion (Fine t) xs → AllByRecursion (Fine t) (served_at xs o)
served_each t xs None p a = a
served_each t xs (Some i) p a = grind (arith, common_steps)

pub served_caps : (xs : List Slot) (o : Option ℕ) → Picked xs o → total cap_of (served_at xs o) ≡ total cap_of xs
served_caps xs None p = refl
served_caps xs (Some i) p = total_set_same cap_of xs i (served (get_or xs i Absent)) Absent p.within (served_cap_of (get_or xs i Absent))
