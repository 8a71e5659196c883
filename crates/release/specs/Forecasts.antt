-- What the forecast says of an action.
use Rattle.std.specs.Prelude.{◌≡◌, ℕ, ◌+◌, ◌-◌, ◌*◌, ◌/◌, ◌≤◌, None, Option}
use Rattle.limits.specs.Checks.{action_check}
use Rattle.limits.specs.declared.refusal.Refusal.{Refusal}
use Rattle.release.specs.Actions.{Action, Meaning, ceil, forecast}
use Rattle.release.specs.Rows.{EndsAt}

-- the checks of an action's load, limit and period
abbrev pub values_check : Action → Option Refusal
values_check k = action_check k.load k.limit k.period

-- The action ends at e, and nowhere else. From its arrival it takes a period for each whole limit in its load, and less
-- than one period more than one for each limit begun.
pub record Lasts (rule : Meaning) (k : Action) (e : ℕ) : Type 0 where
  pub ends : EndsAt rule k e
  pub only : (f : ℕ) → EndsAt rule k f → f ≡ e
  pub at_least : k.arrival + k.period * (k.load / k.limit) ≤ e
  pub at_most : e ≤ k.arrival + (k.period - 1) + k.period * ceil k.load k.limit

-- the forecast of every action in range, whatever its arrival, is its end
abbrev pub ForecastLaw : Meaning → Type 0
ForecastLaw rule = (k : Action) → values_check k ≡ None → Lasts rule k (forecast rule k)
