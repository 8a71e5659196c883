-- Counts of entries.
use Rattle.std.proofs.Common.{◌≡◌, ℕ, zero, suc, ◌+◌, ◌<◌, ◌≤◌, cond, eqb, Some, None, Option, sym, refl, ap, ◌∙◌, inl, inr, arith}
use Rattle.queues.specs.Sizes.{weight, size}
use Rattle.std.proofs.lemmas.Bool.{cases_eq, eq-eqb, ne_eqb, cond-true, cond-false}

pub weight_le : (o : Option ℕ) → weight o ≤ 1
weight_le None = omega arith
weight_le (Some t) = omega arith

-- no more entries than numbers
pub size_le : (m : ℕ) (f : ℕ → Option ℕ) → size m f ≤ m
unfolding size
size_le zero f = omega arith
size_le (suc m) f = omega (arith, weight_le (f m), size_le m f)

-- equal meanings have as many entries
pub size_same : (m : ℕ) (f g : ℕ → Option ℕ) → ((k : ℕ) → k < m → g k ≡ f k) → size m g ≡ size m f
unfolding size
size_same zero f g h = refl
size_same (suc m) f g h = omega (arith, ap weight (h m (omega arith)), size_same m f g (λ k l. h k (omega arith)))

-- g has an entry at s, f has none there, and else they agree
pub size_more : (m : ℕ) (f g : ℕ → Option ℕ) (s t : ℕ) → s < m → f s ≡ None → g s ≡ Some t → ((k : ℕ) → (k ≡ s → ⊥) → g k ≡ f k) → size m g ≡ size m f + 1
unfolding size
size_more zero f g s t l e h o = absurd (omega arith)
size_more (suc m) f g s t l e h o = elim (cases_eq m s) [
  | inl u ↦
      let a : f m ≡ None = ap f u ∙ e in
      let b : g m ≡ Some t = ap g u ∙ h in
      omega (arith, ap weight a, ap weight b, size_same m f g (λ k v. o k (omega arith)))
  | inr u ↦ omega (arith, ap weight (o m u), size_more m f g s t (omega arith) e h o)
]

-- none where nobody has one
pub size_none : (m : ℕ) (f : ℕ → Option ℕ) → ((k : ℕ) → f k ≡ None) → size m f ≡ 0
unfolding size
size_none zero f h = refl
size_none (suc m) f h = omega (arith, ap weight (h m), size_none m f h)

abbrev with : (ℕ → Option ℕ) → ℕ → ℕ → Option ℕ
with f s k = cond (eqb k s) (Some 0) (f k)

with_here : (f : ℕ → Option ℕ) (s : ℕ) → with f s s ≡ Some 0
with_here f s = cond-true (eqb s s) (Some 0) (f s) (eq-eqb s s refl)

with_else : (f : ℕ → Option ℕ) (s k : ℕ) → (k ≡ s → ⊥) → with f s k ≡ f k
with_else f s k u = cond-false (eqb k s) (Some 0) (f k) (ne_eqb k s u)

-- two without an entry
pub size_room : (m : ℕ) (f : ℕ → Option ℕ) (s u : ℕ) → s < m → u < m → (s ≡ u → ⊥) → f s ≡ None → f u ≡ None → size m f + 2 ≤ m
size_room m f s u l l' ne e e' =
    let one = size_more m f (with f s) s 0 l e (with_here f s) (with_else f s) in
    let two = size_more m (with f s) (with (with f s) u) u 0 l' (with_else f s u (λ q. ne (sym q)) ∙ e') (with_here (with f s) u) (with_else (with f s) u) in
    omega (arith, size_le m (with (with f s) u))
