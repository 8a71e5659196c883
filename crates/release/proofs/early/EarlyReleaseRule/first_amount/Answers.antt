use Rattle.std.proofs.Common.{◌≡◌, ℕ, ◌-◌, ◌*◌, ◌/◌, ◌≤◌, true, arith}
use Rattle.release.proofs.early.EarlyReleaseRule.first_amount.Goals as goal
use Rattle.release.specs.Rules.{in_range}
use Rattle.std.proofs.lemmas.Bool.Decides.{nat_tests}
use native.Mathlib.Nat.{div-le_of_le-mul}

-- in range the boundary is no more than a period away, and a part of the limit no more than the limit
part : (limit period arrival boundary : ℕ) → true ≡ in_range limit period arrival boundary → limit * (boundary - arrival) / period ≤ limit
part limit period arrival boundary h = grind (arith, nat_tests, div-le_of_le-mul)

pub overflow_cast-result-then-in_range-2 : goal.overflow_cast-result-then-in_range-2
overflow_cast-result-then-in_range-2 c =
    let a = c.args in
    omega (arith, part a.limit a.period a.arrival a.boundary c.if-in_range.ensures.answer)
