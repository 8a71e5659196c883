-- What is refused: the first check that fails gives the refusal.
use Rattle.std.specs.Prelude.{ℕ, Bool, is_some, None, Option, nat_lt}
use Rattle.limits.specs.Checks.{refuse, server_check}
use Rattle.limits.specs.Ranges.{horizon}
use Rattle.limits.specs.declared.refusal.Refusal.TheVariants.{InstantPastHorizon, EntryAlreadyQueued}
use Rattle.limits.specs.declared.refusal.Refusal.{Refusal}
use Rattle.queues.specs.Dues.{Due}
use Rattle.std.specs.Option.{option_or}

-- of an entry, where it is known whether its server has one already
abbrev pub entry_check : ℕ → ℕ → Bool → Option Refusal
entry_check s t queued =
    option_or (server_check s) (refuse (nat_lt horizon t) InstantPastHorizon (refuse queued EntryAlreadyQueued None))

-- of an entry of the server s at the instant t that is put
abbrev pub put_check : Due → ℕ → ℕ → Option Refusal
put_check f s t = entry_check s t (is_some (f s))
