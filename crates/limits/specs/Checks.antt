-- Lists of checks: the first that fails gives the refusal.
use Rattle.std.specs.Prelude.{ℕ, Bool, cond, Some, None, Option}
use Rattle.limits.specs.Ranges.{most_ticks, outside, servers, unit}
use Rattle.limits.specs.declared.refusal.Refusal.{Refusal}
use Rattle.limits.specs.declared.refusal.Refusal.TheVariants.{ServerNumber, Cap, Load, Period, Limit}

-- the refusal why if a check fails, else what the checks after it give
abbrev pub refuse : {R : Type 0} → Bool → R → Option R → Option R
refuse fails why rest = cond fails (Some why) rest

abbrev pub server_check : ℕ → Option Refusal
server_check number = refuse (outside number servers) ServerNumber None

abbrev pub cap_check : ℕ → Option Refusal
cap_check cap' = refuse (outside cap' unit) Cap None

-- of an action's load, limit and period
abbrev pub action_check : ℕ → ℕ → ℕ → Option Refusal
action_check load limit period =
    refuse (outside load most_ticks) Load (refuse (outside period most_ticks) Period (refuse (outside limit period) Limit None))
