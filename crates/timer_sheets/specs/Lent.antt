-- What is answered where a sheet is run over lent memory.
use Rattle.std.specs.Prelude.{◌≡◌, ℕ, ◌||◌, Some, None, Ok, Err, Option, Result, nat_lt}
use Rattle.limits.specs.Checks.{refuse}
use Rattle.limits.specs.Ranges.{servers}
use Rattle.limits.specs.declared.fault.Fault.{Fault}
use Rattle.limits.specs.declared.fault.Layer.TheVariants.{Script as ScriptLayer}
use Rattle.limits.specs.declared.fault.ReadError.{ReadError}
use Rattle.limits.specs.declared.fault.ReadError.TheVariants.{Fault as AtFault, NoMemory}
use Rattle.limits.specs.declared.refusal.Refusal.TheVariants.{TooLittleMemory}
use Rattle.scripts.specs.Agendas.{places_fault}

-- fewer places than servers for a queue
abbrev pub queue_fault : Fault
queue_fault = record { layer = ScriptLayer; refusal = TooLittleMemory; place = 0 }

-- of how many lines there are, and how many places are lent for them, for the ready queue and for the calendar
abbrev pub lent_check : ℕ → ℕ → ℕ → ℕ → Option ReadError
lent_check lines places ready calendar =
    refuse (nat_lt places lines) (AtFault places_fault) (refuse (nat_lt ready servers || nat_lt calendar servers) (AtFault queue_fault) None)

-- the fault where a check fails; else P, unless memory wants
abbrev pub Lent : Option ReadError → Type 0 → Result (Unit {0}) ReadError → Type 0
Lent check P (Ok _) = (check ≡ None) × P
Lent check P (Err (AtFault f)) = check ≡ Some (AtFault f)
Lent check P (Err NoMemory) = check ≡ None

-- P where there was a fault
abbrev pub Stays : Result (Unit {0}) ReadError → Type 0 → Type 0
Stays (Ok _) P = Unit {0}
Stays (Err (AtFault f)) P = P
Stays (Err NoMemory) P = Unit {0}
