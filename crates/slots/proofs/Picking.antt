-- The slot that `pick` names is the one to serve.
use Rattle.std.proofs.lemmas.Grind.{common_steps}
use Rattle.std.proofs.Common.{◌≡◌, ℕ, zero, suc, ◌<◌, ◌≤◌, true, false, ◌&&◌, leb, List, [], ◌∷◌, get_or, Some, None, Option, refl, arith}
use Rattle.std.specs.List.{AllByRecursion}
use Rattle.std.proofs.lemmas.Bool.{cond_both, and_parts, leb-true, both_ways}
use Rattle.std.proofs.ByRecursion.{All-weaker}
use Rattle.slots.specs.declared.slot.Slot.{Slot}
use Rattle.slots.specs.declared.slot.Slot.TheVariants.{Absent}
use Rattle.slots.specs.Slots.{pick, better, Picked, Chosen, waits, end_of}

-- where the slot in front does not come first, it ends later, if it waits
behind : (s : Slot) (n : ℕ) → (waits s && leb (end_of s) n) ≡ false → waits s ≡ true → n < end_of s
behind s n e w = grind (arith, common_steps)

step : (s : Slot) (ss : List Slot) (o : Option ℕ) → Picked ss o → Picked (s ∷ ss) (better s ss o)
step s ss None h =
    cond_both (waits s) (Some 0) None (λ o. Picked (s ∷ ss) o)
    (λ e. record { within = omega arith; waiting = e; least = ((λ _. omega arith), All-weaker (λ x. waits x ≡ false) (λ x. waits x ≡ true → end_of s ≤ end_of x) (λ x f w. absurd (both_ways (waits x) f w)) ss h); first = λ k l w. omega arith })
    (λ e. (e, h))
step s ss (Some i) h =
    cond_both (waits s && leb (end_of s) (end_of (get_or ss i Absent))) (Some 0) (Some (suc i)) (λ o. Picked (s ∷ ss) o)
    (λ e. let p = and_parts (waits s) (leb (end_of s) (end_of (get_or ss i Absent))) e in let l = leb-true (end_of s) (end_of (get_or ss i Absent)) p.1 in
    record { within = omega arith; waiting = p.0; least = ((λ _. omega arith), All-weaker (λ x. waits x ≡ true → end_of (get_or ss i Absent) ≤ end_of x) (λ x. waits x ≡ true → end_of s ≤ end_of x) (λ x f w. let q = f w in omega arith) ss h.least); first = λ k l w. omega arith })
    (λ e. record { within = let w = h.within in omega arith; waiting = h.waiting; least = ((λ w. let q = behind s (end_of (get_or ss i Absent)) e w in omega arith), h.least); first = first s ss i (behind s (end_of (get_or ss i Absent)) e) h.first })
  where
    first : (s : Slot) (ss : List Slot) (i : ℕ) → (waits s ≡ true → end_of (get_or ss i Absent) < end_of s) → ((k : ℕ) → k < i → waits (get_or ss k Absent) ≡ true → end_of (get_or ss i Absent) < end_of (get_or ss k Absent)) → (k : ℕ) → k < suc i → waits (get_or (s ∷ ss) k Absent) ≡ true → end_of (get_or ss i Absent) < end_of (get_or (s ∷ ss) k Absent)
    first s ss i a b zero l w = a w
    first s ss i a b (suc k) l w = b k (omega arith) w

pub pick_tells : (xs : List Slot) → Picked xs (pick xs)
pick_tells [] = tt
pick_tells (s ∷ ss) = step s ss (pick ss) (pick_tells ss)

-- there is one slot to serve at the most
clash : (xs : List Slot) (i j : ℕ) → Chosen xs i → Chosen xs j → i < j → ⊥
clash xs i j p q l = grind (arith, common_steps)

idle : (xs : List Slot) (i : ℕ) → AllByRecursion (λ y. waits y ≡ false) xs → Chosen xs i → ⊥
idle xs i p q = grind (arith, common_steps)

picked_same : (xs : List Slot) (o o' : Option ℕ) → Picked xs o → Picked xs o' → o ≡ o'
picked_same xs None None p q = refl
picked_same xs None (Some j) p q = absurd (idle xs j p q)
picked_same xs (Some i) None p q = absurd (idle xs i q p)
picked_same xs (Some i) (Some j) p q = grind (arith, common_steps)

pub picked_is : (xs : List Slot) (o : Option ℕ) → Picked xs o → o ≡ pick xs
picked_is xs o p = picked_same xs o (pick xs) p (pick_tells xs)
