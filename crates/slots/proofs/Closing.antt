-- The stretches that end at an instant are closed.
use Rattle.std.proofs.lemmas.Grind.{common_steps}
use Rattle.std.proofs.Common.{◌≡◌, ℕ, ◌+◌, ◌-◌, ◌*◌, ◌≤◌, false, cond, eqb, leb, List, [], ◌∷◌, map, refl, ap, mul-add, arith}
use Rattle.std.specs.List.{AllByRecursion}
use Rattle.std.proofs.lemmas.Bool.{cond_both, cond-true, le-leb, eqb-true}
use Rattle.std.proofs.ByRecursion.{All-weaker}
use Rattle.slots.specs.declared.slot.Work.{Work}
use Rattle.slots.specs.declared.slot.Slot.{Slot}
use Rattle.slots.specs.declared.slot.Slot.TheVariants.{Absent, Resting, Working}
use Rattle.limits.specs.Ranges.{unit}
use Rattle.slots.specs.Slots.{total, cap_of, busy, demand, late, renewed, closed, Fine, Bounded}
use Rattle.slots.proofs.Totals.{total_balance, total_none}

pub closed_fine : (t : ℕ) (s : Slot) → Fine t s → Fine (t + 1) (closed (t + 1) s)
closed_fine t Absent h = tt
closed_fine t (Resting c) h = h
closed_fine t (Working w) h = grind (arith, common_steps)

pub all_closed : (t : ℕ) (xs : List Slot) → AllByRecursion (Fine t) xs → AllByRecursion (Fine (t + 1)) (map (closed (t + 1)) xs)
all_closed t [] a = tt
all_closed t (x ∷ xs) a = (closed_fine t x a.0, all_closed t xs a.1)

pub closed_cap_of : (t : ℕ) (s : Slot) → cap_of (closed t s) ≡ cap_of s
closed_cap_of t Absent = refl
closed_cap_of t (Resting c) = refl
closed_cap_of t (Working w) = grind (arith, common_steps)

-- the time from a to d, cut at a + b
pub split : (c a b d : ℕ) → a + b ≤ d → c * (d - a) ≡ c * (d - (a + b)) + c * b
split c a b d h = let e : d - a ≡ (d - (a + b)) + b = omega arith in rw (e, mul-add)

-- a new stretch claims no more than the time that it covers
renewed_demand : (t d : ℕ) (w : Work) → Fine t (Working w) → w.end ≤ d → demand d (Working (renewed w)) ≤ w.cap * (d - w.end)
renewed_demand t d w h l = grind (arith, common_steps)

-- what a closed slot claims, against what its cap_of has to give
pub closed_balance : (t d : ℕ) → t + 1 ≤ d → (s : Slot) → Fine t s → demand d (closed (t + 1) s) + busy s * (d - (t + 1)) ≤ demand d s + busy (closed (t + 1) s) * (d - (t + 1))
closed_balance t d l Absent h = omega arith
closed_balance t d l (Resting c) h = omega arith
closed_balance t d l (Working w) h =
    cond_both (eqb w.end (t + 1)) (cond (eqb w.left 0) (Resting w.cap) (Working (renewed w))) (Working w)
    (λ s. demand d s + w.cap * (d - (t + 1)) ≤ demand d (Working w) + busy s * (d - (t + 1)))
    (λ e. let at = eqb-true w.end (t + 1) e in
    let le : w.end ≤ d = omega arith in
    let old = cond-true (leb w.end d) (unit * w.unserved + w.cap * (d - w.end)) 0 (le-leb w.end d le) in
    let same = ap (λ n. w.cap * (d - n)) at in
    cond_both (eqb w.left 0) (Resting w.cap) (Working (renewed w))
    (λ s. demand d s + w.cap * (d - (t + 1)) ≤ demand d (Working w) + busy s * (d - (t + 1)))
    (λ z. omega arith)
    (λ z. let new = renewed_demand t d w h le in omega arith))
    (λ e. omega arith)

pub closed_bound : (t : ℕ) (xs : List Slot) → AllByRecursion (Fine t) xs → Bounded (t + 1) xs → Bounded (t + 1) (map (closed (t + 1)) xs)
closed_bound t xs a b d l =
    let q = total_balance (Fine t) (demand d) busy (closed (t + 1)) (d - (t + 1)) (closed_balance t d l) xs a in
    let r = b d l in
    omega arith

-- a late slot still claims something at its end
on_time : (t : ℕ) (s : Slot) → demand t s ≡ 0 → late t s ≡ false
on_time t Absent h = refl
on_time t (Resting c) h = refl
on_time t (Working w) h = grind (arith, common_steps)

pub none_late : (t : ℕ) (xs : List Slot) → Bounded t xs → AllByRecursion (λ s. late t s ≡ false) xs
none_late t xs b =
    let q = b t (omega arith) in
    let z : t - t ≡ 0 = omega arith in
    let n : total (demand t) xs ≡ 0 = omega (arith, ap (λ n. total busy xs * n) z) in
    All-weaker (λ s. demand t s ≡ 0) (λ s. late t s ≡ false) (on_time t) xs (total_none (demand t) xs n)

-- service leaves nothing owed in a stretch that ends
pub nothing_owed : (t : ℕ) (w : Work) → late t (Working w) ≡ false → w.end ≡ t → w.unserved ≡ 0
nothing_owed t w h e = grind (arith, common_steps)
