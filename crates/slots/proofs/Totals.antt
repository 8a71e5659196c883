-- Sums over lists.
use Rattle.std.proofs.Common.{◌≡◌, ℕ, zero, suc, ◌+◌, ◌*◌, ◌<◌, ◌≤◌, List, [], ◌∷◌, map, length, get_or, set, refl, arith}
use Rattle.std.specs.List.{AllByRecursion}
use Rattle.slots.specs.Slots.{total}

-- one element changes
pub total_set : {X : Type 0} (f : X → ℕ) (xs : List X) (i : ℕ) (y d : X) → i < length xs → total f (set xs i y) + f (get_or xs i d) ≡ total f xs + f y
total_set f [] i y d h = absurd (omega arith)
total_set f (x ∷ xs) zero y d h = omega arith
total_set f (x ∷ xs) (suc i) y d h = let r = total_set f xs i y d (omega arith) in omega arith

-- a change that f does not see
pub total_set_same : {X : Type 0} (f : X → ℕ) (xs : List X) (i : ℕ) (y d : X) → i < length xs → f y ≡ f (get_or xs i d) → total f (set xs i y) ≡ total f xs
total_set_same f xs i y d h e = omega (arith, total_set f xs i y d h)

-- every element at most a multiple
pub total_le_mul : {X : Type 0} (P : X → Type 0) (f g : X → ℕ) (k : ℕ) → ((x : X) → P x → f x ≤ g x * k) → (xs : List X) → AllByRecursion P xs → total f xs ≤ total g xs * k
total_le_mul P f g k h [] a = omega arith
total_le_mul P f g k h (x ∷ xs) a = let r = total_le_mul P f g k h xs a.1 in let q = h x a.0 in omega arith

-- every element gives up no more than it gains
pub total_balance : {X : Type 0} (P : X → Type 0) (f g : X → ℕ) (m : X → X) (k : ℕ) → ((x : X) → P x → f (m x) + g x * k ≤ f x + g (m x) * k) → (xs : List X) → AllByRecursion P xs → total f (map m xs) + total g xs * k ≤ total f xs + total g (map m xs) * k
total_balance P f g m k h [] a = omega arith
total_balance P f g m k h (x ∷ xs) a = let r = total_balance P f g m k h xs a.1 in let q = h x a.0 in omega arith

-- a map that f does not see
pub total_map_same : {X : Type 0} (f : X → ℕ) (m : X → X) → ((x : X) → f (m x) ≡ f x) → (xs : List X) → total f (map m xs) ≡ total f xs
total_map_same f m h [] = refl
total_map_same f m h (x ∷ xs) = let r = total_map_same f m h xs in let q = h x in omega arith

-- nothing in the sum, nothing in an element
pub total_none : {X : Type 0} (f : X → ℕ) (xs : List X) → total f xs ≡ 0 → AllByRecursion (λ x. f x ≡ 0) xs
total_none f [] h = tt
total_none f (x ∷ xs) h = (omega arith, total_none f xs (omega arith))

pub all_both : {X : Type 0} (P Q : X → Type 0) (xs : List X) → AllByRecursion P xs → AllByRecursion Q xs → AllByRecursion (λ x. P x × Q x) xs
all_both P Q [] p q = tt
all_both P Q (x ∷ xs) p q = ((p.0, q.0), all_both P Q xs p.1 q.1)
