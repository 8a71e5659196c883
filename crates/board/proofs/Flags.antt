-- Numbers by their bits.
use Rattle.std.proofs.Common.{◌≡◌, ℕ, zero, suc, ◌+◌, ◌/◌, ◌%◌, ◌≤◌, Bool, cond, arith}
use Rattle.bits.specs.Words.{bit}

-- 1 where the test is true
abbrev pub flag : Bool → ℕ
flag b = cond b 1 0

same_below : (n x y : ℕ) → x ≤ n → y ≤ n → ((j : ℕ) → bit x j ≡ bit y j) → x ≡ y
same_below zero x y p q h = omega arith
same_below (suc n) x y p q h =
    let deep : x / 2 ≡ y / 2 = same_below n (x / 2) (y / 2) (omega arith) (omega arith) (λ j. h (suc j)) in
    let low : x % 2 ≡ y % 2 = h zero in
    omega arith

-- numbers with the same bits are the same
pub same_bits : (x y : ℕ) → ((j : ℕ) → bit x j ≡ bit y j) → x ≡ y
same_bits x y h = same_below (x + y) x y (omega arith) (omega arith) h
