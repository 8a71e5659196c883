-- What a plan must be, and how it is written.
use Rattle.std.specs.Prelude.{ℕ, ◌+◌, Bool, not, ◌&&◌, List, ◌∷◌, map, length, vec_items, nat_le}
use Rattle.limits.specs.Ranges.{most_ticks, outside, servers, unit}
use Rattle.plans.specs.Numbers.{distinct}
use Rattle.plans.specs.Records.{record_bytes}
use Rattle.plans.specs.declared.record.Record.{Record}
use Rattle.plans.specs.declared.server.Action.{Action}
use Rattle.plans.specs.declared.server.Server.{Server}
use Rattle.std.specs.List.{flat_map, list_all}

-- n is one of 1 .. top
abbrev pub within : ℕ → ℕ → Bool
within n top = not (outside n top)

abbrev pub actions_of : Server → List Action
actions_of s = vec_items s.actions

abbrev pub valid_action : Action → Bool
valid_action a = within a.number 255 && (within a.task.load most_ticks && (within a.task.period most_ticks && within a.task.limit a.task.period))

abbrev pub valid_server : Server → Bool
valid_server s = within s.number servers && (within s.cap unit && (list_all valid_action (actions_of s) && distinct (λ a. a.number) (actions_of s)))

abbrev pub valid_servers : List Server → Bool
valid_servers ss = list_all valid_server ss && distinct (λ s. s.number) ss

-- the first record says how many there are
abbrev pub head_record : ℕ → Record
head_record count = record { kind = 0; number = 0; zeros = 0; first = count; second = 0; third = 0 }

abbrev pub server_record : Server → Record
server_record s = record { kind = 1; number = s.number; zeros = 0; first = s.cap; second = 0; third = 0 }

abbrev pub action_record : Action → Record
action_record a = record { kind = 2; number = a.number; zeros = 0; first = a.task.load; second = a.task.limit; third = a.task.period }

-- a server and, directly after it, its actions
abbrev pub own_records : Server → List Record
own_records s = server_record s ∷ map action_record (actions_of s)

abbrev pub body_records : List Server → List Record
body_records ss = flat_map own_records ss

abbrev pub plan_records : List Server → List Record
plan_records ss = head_record (length (body_records ss) + 1) ∷ body_records ss

-- a plan of these servers: every value is in range, no number stands twice, and there are at most 1,024 records
abbrev pub valid : List Server → Bool
valid ss = valid_servers ss && nat_le (length (plan_records ss)) 1024

-- the bytes of a plan of these servers
abbrev pub encoding : List Server → List ℕ
encoding ss = flat_map record_bytes (plan_records ss)
