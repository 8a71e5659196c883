-- The laws of single bits: of `|`, `& !`, `<<`, and of the zeros below the lowest set bit.
use Rattle.std.proofs.Common.{◌≡◌, ℕ, zero, suc, ◌-◌, ◌*◌, ◌/◌, ◌%◌, ◌^◌, ◌<◌, ◌≤◌, min, max, ◌≢◌, sym, refl, ap, ◌∙◌, ⊎_elim, pow-suc, div-one, arith}
use Rattle.bits.specs.Words.{bit, Lowest}
use Rattle.std.proofs.lemmas.Nat.{one_shl, pow_below}
use Rattle.std.proofs.lemmas.Bool.{cases_lt}
use lib.Bits.{bit_and, bit_or, and_step, or_step}
use lib.Count.{count_trailing_zeros, under}
use native.Mathlib.Nat.{pow-succ', div-div-eq-div-mul}

-- a bit is 0 or 1
pub bit_below : (x i : ℕ) → bit x i < 2
bit_below x zero = omega arith
bit_below x (suc i) = bit_below (x / 2) i

-- 0 has no bit
pub bit_of_zero : (i : ℕ) → bit 0 i ≡ 0
bit_of_zero zero = refl
bit_of_zero (suc i) = bit_of_zero i

-- of `|`
pub bit_or_lem : (a b i : ℕ) → bit (bit_or a b) i ≡ max (bit a i) (bit b i)
bit_or_lem a b zero = omega (arith, or_step a b)
bit_or_lem a b (suc i) =
    let half : bit_or a b / 2 ≡ bit_or (a / 2) (b / 2) = omega (arith, or_step a b) in
    ap (λ (x : ℕ). bit x i) half ∙ bit_or_lem (a / 2) (b / 2) i

-- of `&`
pub bit_and_lem : (a b i : ℕ) → bit (bit_and a b) i ≡ min (bit a i) (bit b i)
bit_and_lem a b zero = omega (arith, and_step a b)
bit_and_lem a b (suc i) =
    let half : bit_and a b / 2 ≡ bit_and (a / 2) (b / 2) = omega (arith, and_step a b) in
    ap (λ (x : ℕ). bit x i) half ∙ bit_and_lem (a / 2) (b / 2) i

half_pow : (i : ℕ) → 2 ^ suc i / 2 ≡ 2 ^ i
half_pow i = omega (arith, pow-suc 2 i)

-- a power of two has one bit
pub bit_pow_same : (i : ℕ) → bit (2 ^ i) i ≡ 1
bit_pow_same zero = refl
bit_pow_same (suc i) = ap (λ (x : ℕ). bit x i) (half_pow i) ∙ bit_pow_same i

-- and no other
pub bit_pow_other : (i j : ℕ) → j ≢ i → bit (2 ^ i) j ≡ 0
bit_pow_other zero zero ne = absurd (ne refl)
bit_pow_other zero (suc j) ne = bit_of_zero j
bit_pow_other (suc i) zero ne = omega (arith, pow-suc 2 i)
bit_pow_other (suc i) (suc j) ne = ap (λ (x : ℕ). bit x j) (half_pow i) ∙ bit_pow_other i j (λ e. ne (ap suc e))

-- `!x` at n bits
pub bit_not : (n x j : ℕ) → x < 2 ^ n → j < n → bit (2 ^ n - 1 - x) j ≡ 1 - bit x j
bit_not zero x j h lt = absurd (omega arith)
bit_not (suc n) x zero h lt = omega (arith, pow-suc 2 n)
bit_not (suc n) x (suc j) h lt =
    let p = pow-suc 2 n in
    let half : (2 ^ suc n - 1 - x) / 2 ≡ 2 ^ n - 1 - x / 2 = omega arith in
    ap (λ (y : ℕ). bit y j) half ∙ bit_not n (x / 2) j (omega arith) (omega arith)

-- a number of n bits has none from n on
pub bit_high : (n x j : ℕ) → x < 2 ^ n → n ≤ j → bit x j ≡ 0
bit_high zero x j h le = let e : x ≡ 0 = omega arith in ap (λ (y : ℕ). bit y j) e ∙ bit_of_zero j
bit_high (suc n) x zero h le = absurd (omega arith)
bit_high (suc n) x (suc j) h le = let p = pow-suc 2 n in bit_high n (x / 2) j (omega arith) (omega arith)

-- a number with no set bit is 0
pub zero_from_bits : (n x : ℕ) → x < 2 ^ n → ((j : ℕ) → bit x j ≡ 0) → x ≡ 0
zero_from_bits zero x h f = omega arith
zero_from_bits (suc n) x h f =
    let p = pow-suc 2 n in
    let e : x / 2 ≡ 0 = zero_from_bits n (x / 2) (omega arith) (λ j. f (suc j)) in
    let z : x % 2 ≡ 0 = f zero in
    omega arith

lower : (k x d t : ℕ) → x % 2 ≡ d → d < 2 → 0 < x → (0 < x / 2 → (t < k) × Lowest (x / 2) t) → (under d t < suc k) × Lowest x (under d t)
lower k x zero t e s pos ih =
    let deep = ih (omega arith) in
    let here : t < k = deep.0 in
    (omega arith, record { set = deep.1.set; below = λ j. below j })
  where
    below : (j : ℕ) → j < suc t → bit x j ≡ 0
    below zero h = e
    below (suc j) h = (ih (omega arith)).1.below j (omega arith)
lower k x (suc zero) t e s pos ih = (omega arith, record { set = e; below = λ j h. absurd (omega arith) })
lower k x (suc (suc d)) t e s pos ih = absurd (omega arith)

-- the zeros at the end lead to the lowest set bit
pub trailing_lowest : (k x : ℕ) → 0 < x → x < 2 ^ k → (count_trailing_zeros k x < k) × Lowest x (count_trailing_zeros k x)
unfolding count_trailing_zeros
trailing_lowest zero x pos h = absurd (omega arith)
trailing_lowest (suc k) x pos h =
    let p = pow-suc 2 k in
    lower k x (x % 2) (count_trailing_zeros k (x / 2)) refl (omega arith) pos (λ q. trailing_lowest k (x / 2) q (omega arith))

-- `x | 1 << i` and `x & !(1 << i)` at 64 bits, as the code's terms have them
pub set_here : (x i : ℕ) → i < 64 → bit (bit_or x ((1 * 2 ^ i) % 2 ^ 64)) i ≡ 1
set_here x i h =
    let e = one_shl i 64 h in
    let s = bit_pow_same i in
    let b = bit_below x i in
    rw (e, bit_or_lem, s) (omega arith)

pub set_other : (x i j : ℕ) → i < 64 → j ≢ i → bit (bit_or x ((1 * 2 ^ i) % 2 ^ 64)) j ≡ bit x j
set_other x i j h ne =
    let e = one_shl i 64 h in
    let s = bit_pow_other i j ne in
    rw (e, bit_or_lem, s) (omega arith)

pub clear_here : (x i : ℕ) → i < 64 → bit (bit_and x (2 ^ 64 - 1 - (1 * 2 ^ i) % 2 ^ 64)) i ≡ 0
clear_here x i h =
    let e = one_shl i 64 h in
    let s = bit_pow_same i in
    let n = bit_not 64 (2 ^ i) i (pow_below i 64 h) h in
    rw (e, bit_and_lem, n, s) (omega arith)

pub clear_other : (x i j : ℕ) → x < 2 ^ 64 → i < 64 → j ≢ i → bit (bit_and x (2 ^ 64 - 1 - (1 * 2 ^ i) % 2 ^ 64)) j ≡ bit x j
clear_other x i j hx h ne =
    let e = one_shl i 64 h in
    let s = bit_pow_other i j ne in
    let b = bit_below x j in
    ⊎_elim
    (λ (low : j < 64). let n = bit_not 64 (2 ^ i) j (pow_below i 64 h) low in rw (e, bit_and_lem, n, s) (omega arith))
    (λ (high : 64 ≤ j). let z = bit_high 64 x j hx high in rw (bit_and_lem, z) (omega arith))
    (cases_lt j 64)

-- bit i is what is left of x >> i at the end
pub bit_shift : (i x : ℕ) → bit x i ≡ (x / 2 ^ i) % 2
bit_shift zero x = omega (arith, div-one x)
bit_shift (suc i) x = bit_shift i (x / 2) ∙ ap (λ (y : ℕ). y % 2) (div-div-eq-div-mul x 2 (2 ^ i) ∙ ap (λ (y : ℕ). x / y) (sym (pow-succ' 2 i)))
