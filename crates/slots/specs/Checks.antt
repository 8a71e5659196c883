-- The lists of checks of a board's calls, as functions of what they look at. The first check that fails gives the refusal.
use Rattle.std.specs.Prelude.{ℕ, ◌+◌, ◌*◌, Bool, not, None, Option, nat_le, nat_lt}
use Rattle.limits.specs.Checks.{action_check, cap_check, refuse, server_check}
use Rattle.limits.specs.Ranges.{horizon, outside, unit}
use Rattle.limits.specs.declared.refusal.Refusal.{Refusal}
use Rattle.limits.specs.declared.refusal.Refusal.TheVariants.{AdvanceCount, NotAdmitted, AlreadyAdmitted, CapsExceedProcessor, ActionAtWork, LimitAboveCap, ForecastPastHorizon, ClockAtHorizon}
use Rattle.release.specs.Actions.{Action, Meaning, forecast}
use Rattle.std.specs.Option.{option_or}

-- admit: the server and its cap; whether it is admitted, and the caps held
abbrev pub admit_check : ℕ → ℕ → Bool → ℕ → Option Refusal
admit_check s c there held =
    option_or (server_check s) (option_or (cap_check c) (refuse there AlreadyAdmitted (refuse (nat_lt unit (held + c)) CapsExceedProcessor None)))

-- leave: the server; whether it is admitted, and at work
abbrev pub leave_check : ℕ → Bool → Bool → Option Refusal
leave_check s there busy = option_or (server_check s) (refuse (not there) NotAdmitted (refuse busy ActionAtWork None))

-- start: the server and the action; whether it is admitted, and at work, and its cap
abbrev pub start_check : Meaning → ℕ → Action → Bool → Bool → ℕ → Option Refusal
start_check rule s k there busy c =
    option_or (server_check s) (option_or (action_check k.load k.limit k.period) (refuse (not there) NotAdmitted (refuse busy ActionAtWork
    (refuse (nat_lt (c * k.period) (k.limit * unit)) LimitAboveCap (refuse (nat_lt horizon (forecast rule k)) ForecastPastHorizon None)))))

-- tick: the clock
abbrev pub tick_check : ℕ → Option Refusal
tick_check clock = refuse (nat_le horizon clock) ClockAtHorizon None

-- advance: the count and the clock
abbrev pub advance_check : ℕ → ℕ → Option Refusal
advance_check count clock = refuse (outside count horizon) AdvanceCount (refuse (nat_le horizon clock) ClockAtHorizon None)
