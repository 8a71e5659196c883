-- The values of an action that passes its checks.
use Rattle.std.proofs.Common.{◌≡◌, ℕ, ◌≤◌, false, None, arith}
use Rattle.limits.specs.Ranges.{most_ticks, outside}
use Rattle.release.specs.Actions.{Action}
use Rattle.release.specs.Forecasts.{values_check}
use Rattle.std.proofs.lemmas.Bool.Decides.{nat_tests}

-- what is not outside lies inside
pub inside : (n top : ℕ) → outside n top ≡ false → (1 ≤ n) × (n ≤ top)
inside n top h = grind (arith, nat_tests)

pub record Ranged (k : Action) : Type 0 where
  pub load_low : 1 ≤ k.load
  pub load_high : k.load ≤ most_ticks
  pub period_low : 1 ≤ k.period
  pub period_high : k.period ≤ most_ticks
  pub limit_low : 1 ≤ k.limit
  pub limit_high : k.limit ≤ k.period

pub ranged : (k : Action) → values_check k ≡ None → Ranged k
ranged k h = grind (arith, nat_tests)
