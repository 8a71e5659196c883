-- What the reader's steps do with the servers read so far.
use Rattle.std.specs.Prelude.{◌≡◌, ℕ, true, List, [], ◌∷◌, ◌++◌, length, Some, None, Ok, Err, vec_items, Option, Result, Vec, nat_lt}
use Rattle.limits.specs.declared.refusal.Refusal.{Refusal}
use Rattle.plans.specs.Faults.{FirstRecord, plan_fault_of, record_check}
use Rattle.plans.specs.Numbers.{has}
use Rattle.plans.specs.Plans.{action_record, actions_of, encoding, valid}
use Rattle.plans.specs.Records.{record_at}
use Rattle.plans.specs.declared.entry.Entry.{Entry}
use Rattle.plans.specs.declared.entry.Entry.TheVariants.{NewServer, NewAction}
use Rattle.limits.specs.declared.fault.ReadError.{ReadError}
use Rattle.limits.specs.declared.fault.ReadError.TheVariants.{Fault as AtFault, NoMemory}
use Rattle.plans.specs.declared.record.Record.{Record}
use Rattle.plans.specs.declared.server.Action.{Action}
use Rattle.plans.specs.declared.server.Server.{Server}
use Rattle.std.specs.declared.alloc.Global.{Global}

-- the actions of the last server
abbrev pub last_actions : List Server → List Action
last_actions [] = []
last_actions (s ∷ []) = actions_of s
last_actions (s ∷ t ∷ ss) = last_actions (t ∷ ss)

-- the checks of a record after those of the servers ss
abbrev pub check_after : List Server → Record → Option Refusal
check_after ss r = record_check (nat_lt 0 (length ss)) (has (λ s. s.number) r.number ss) (has (λ a. a.number) r.number (last_actions ss)) r

-- the record of an entry
abbrev pub entry_record : Entry → Record
entry_record (NewServer number cap') = record { kind = 1; number = number; zeros = 0; first = cap'; second = 0; third = 0 }
entry_record (NewAction a) = action_record a

-- a record is taken for an entry where it passes, else the first check that it fails is told
abbrev pub Checked : List Server → Record → Result Entry Refusal → Type 0
Checked ss r (Ok e) = (check_after ss r ≡ None) × (entry_record e ≡ r)
Checked ss r (Err why) = check_after ss r ≡ Some why

-- ts is ss with one more server, which has no actions
pub record ServerAdded (number cap' : ℕ) (ss ts : List Server) : Type 0 where
  pub new : Server
  pub after : ts ≡ ss ++ new ∷ []
  pub named : new.number ≡ number
  pub capped : new.cap ≡ cap'
  pub bare : actions_of new ≡ []

-- ts is ss with one more action in the last server
pub record ActionAdded (a : Action) (ss ts : List Server) : Type 0 where
  pub front : List Server
  pub old : Server
  pub new : Server
  pub before : ss ≡ front ++ old ∷ []
  pub after : ts ≡ front ++ new ∷ []
  pub named : new.number ≡ old.number
  pub capped : new.cap ≡ old.cap
  pub longer : actions_of new ≡ actions_of old ++ a ∷ []

-- ts is ss with the entry
abbrev pub Added : Entry → List Server → List Server → Type 0
Added (NewServer number cap') ss ts = ServerAdded number cap' ss ts
Added (NewAction a) ss ts = ActionAdded a ss ts

-- the record at the place, after those of ss: where it passes, ts is ss with its entry
pub record Taken (bytes : List ℕ) (place : ℕ) (ss ts : List Server) : Type 0 where
  pub passed : check_after ss (record_at bytes place) ≡ None
  pub entry : Entry
  pub same : entry_record entry ≡ record_at bytes place
  pub added : Added entry ss ts

abbrev pub Took : List ℕ → ℕ → List Server → List Server → Result (Unit {0}) ReadError → Type 0
Took bytes place ss ts (Ok _) = Taken bytes place ss ts
Took bytes place ss ts (Err (AtFault f)) = (f ≡ plan_fault_of f.refusal place) × (check_after ss (record_at bytes place) ≡ Some f.refusal)
Took bytes place ss ts (Err NoMemory) = Unit {0}

-- the records of bytes of the right size give servers whose encoding they are, or the first of them at fault
abbrev pub ReadServers : List ℕ → Result (Vec Server Global) ReadError → Type 0
ReadServers bytes (Ok v) = (valid (vec_items v) ≡ true) × (bytes ≡ encoding (vec_items v))
ReadServers bytes (Err (AtFault f)) = FirstRecord bytes f
ReadServers bytes (Err NoMemory) = Unit {0}
