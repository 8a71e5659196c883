-- Quotients rounded up, and the multiple at or after a number.
use Rattle.std.proofs.Common.{◌≡◌, ℕ, suc, ◌+◌, ◌-◌, ◌*◌, ◌/◌, ◌%◌, ◌<◌, ◌≤◌, min, sym, refl, ap, ◌∙◌, ⊎_elim, mod-lt, mod-eq_of_lt, mul_comm, mul-le-mul_left, mul-suc, arith}
use Rattle.release.specs.Actions.{LeastMultiple, ceil, multiple_from}
use Rattle.std.proofs.lemmas.Bool.{cases_eq}
use Rattle.std.proofs.lemmas.Grind.{div_ceil_times}
use native.Mathlib.Nat.{div-add-mod, mod_self}

pub ceil_from : (n d : ℕ) → 1 ≤ d → n ≤ d * ceil n d
unfolding ceil
ceil_from n d h = omega (arith, div-add-mod (n + (d - 1)) d, mod-lt (n + (d - 1)) h)

pub ceil_below : (n d : ℕ) → 1 ≤ d → d * ceil n d < n + d
unfolding ceil
ceil_below n d h = omega (arith, div-add-mod (n + (d - 1)) d)

-- multiples of d in order
rank : (d a b : ℕ) → d * a < d * b + d → a ≤ b
rank d a b h = grind arith

pub ceil_least : (n d j : ℕ) → 1 ≤ d → n ≤ d * j → ceil n d ≤ j
ceil_least n d j h l = rank d (ceil n d) j (omega (arith, ceil_below n d h))

-- only one multiple lies so near
pub ceil_is : (n d j : ℕ) → 1 ≤ d → n ≤ d * j → d * j < n + d → ceil n d ≡ j
ceil_is n d j h low high = grind (arith, ceil_least, ceil_from n d h, rank d j (ceil n d))

-- as a quotient rounded up is computed
pub ceil_quotient : (n d : ℕ) → 1 ≤ d → n / d + min 1 (n % d) ≡ ceil n d
ceil_quotient n d h =
    let q = n / d + min 1 (n % d) in
    let t = div_ceil_times n d h in
    sym (ceil_is n d q h (omega (arith, mul_comm d q)) (omega (arith, mul_comm d q)))

-- as the next multiple is computed
pub multiple_next : (n d : ℕ) → 1 ≤ d → n + (d - n % d) % d ≡ multiple_from n d
multiple_next n d h =
    let q = div-add-mod n d in
    let m = mod-lt n {m = d} h in
    ⊎_elim
    (λ (z : n % d ≡ 0).
    let same : d - n % d ≡ d = omega arith in
    let e : (d - n % d) % d ≡ 0 = ap (λ x. x % d) same ∙ mod_self d in
    let c = ceil_is n d (n / d) h (omega arith) (omega arith) in
    omega (arith, ap (λ x. d * x) c))
    (λ (z : n % d ≡ 0 → ⊥).
    let less : d - n % d < d = omega arith in
    let e : (d - n % d) % d ≡ d - n % d = mod-eq_of_lt less in
    let s = mul-suc d (n / d) in
    let c = ceil_is n d (suc (n / d)) h (omega arith) (omega arith) in
    omega (arith, ap (λ x. d * x) c))
    (cases_eq (n % d) 0)

pub multiple_least : (n d : ℕ) → 1 ≤ d → LeastMultiple n d (multiple_from n d)
multiple_least n d h = record {
  multiple = (ceil n d, refl);
  not_below = ceil_from n d h;
  near = ceil_below n d h;
  least = λ j l. mul-le-mul_left d (ceil_least n d j h l);
}
