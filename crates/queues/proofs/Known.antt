-- An entry is there or not.
use Rattle.std.proofs.Common.{◌≡◌, ℕ, false, ◌⊎◌, is_some, Some, None, Option, refl, inl, inr, arith}

-- as two cases
pub known : (o : Option ℕ) → (o ≡ None) ⊎ ((t : ℕ) × (o ≡ Some t))
known None = inl refl
known (Some t) = inr (t, refl)

-- as a test
pub not_some : (o : Option ℕ) → is_some o ≡ false → o ≡ None
not_some None e = refl
not_some (Some t) e = absurd (grind arith)
