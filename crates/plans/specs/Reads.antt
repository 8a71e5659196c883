-- What is answered where bytes are read as a plan.
use Rattle.std.specs.Prelude.{◌≡◌, ℕ, List, map, Some, None, Ok, Err, vec_items, Option, Result, ◌≢◌}
use Rattle.plans.specs.Faults.{FirstFault}
use Rattle.plans.specs.Numbers.{numbered}
use Rattle.plans.specs.Plans.{actions_of, encoding}
use Rattle.limits.specs.declared.fault.ReadError.{ReadError}
use Rattle.limits.specs.declared.fault.ReadError.TheVariants.{Fault as AtFault, NoMemory}
use Rattle.plans.specs.declared.plan.Plan.{Plan}
use Rattle.plans.specs.declared.server.Action.{Action}
use Rattle.plans.specs.declared.server.Server.{Server}

-- the servers of a plan, in plan order
abbrev pub servers_of : Plan → List Server
servers_of p = vec_items p.servers

-- what a server of a plan says: its number, its cap and its actions
abbrev pub Told : Type 0
Told = ℕ × ℕ × List Action

-- what a plan says
abbrev pub contents : Plan → List Told
contents p = map (λ s. (s.number, s.cap, actions_of s)) (servers_of p)

-- the bytes of a plan
abbrev pub encoding_of : Plan → List ℕ
encoding_of p = encoding (servers_of p)

-- the server of a number
abbrev pub server_of : Plan → ℕ → Option Server
server_of p n = numbered (λ s. s.number) n (servers_of p)

-- the action of a number among a server's, if there is a server
abbrev pub action_in : Option Server → ℕ → Option Action
action_in None n = None
action_in (Some s) n = numbered (λ a. a.number) n (actions_of s)

-- the action of a number of the server of a number
abbrev pub action_of : Plan → ℕ → ℕ → Option Action
action_of p s n = action_in (server_of p s) n

-- no plan has these bytes, and the fault is their first; want of memory says nothing of the bytes
abbrev pub NotRead : List ℕ → ReadError → Type 0
NotRead bytes (AtFault f) = FirstFault bytes f × ((p : Plan) → bytes ≢ encoding_of p)
NotRead bytes NoMemory = Unit {0}

-- p is the plan that has these bytes: any other that has them says the same
pub record Reads (bytes : List ℕ) (p : Plan) : Type 0 where
  pub encoded : bytes ≡ encoding_of p
  pub only : (q : Plan) → bytes ≡ encoding_of q → contents q ≡ contents p

-- the answer to bytes: the plan whose encoding they are, which is valid by its type, or the first fault
abbrev pub Read : List ℕ → Result Plan ReadError → Type 0
Read bytes (Ok p) = Reads bytes p
Read bytes (Err e) = NotRead bytes e

-- a plan held, replaced by that of the bytes; where they are not read it stands as it was
abbrev pub Replaced : List ℕ → Plan → Plan → Result (Unit {0}) ReadError → Type 0
Replaced bytes old new (Ok _) = Reads bytes new
Replaced bytes old new (Err e) = (new ≡ old) × NotRead bytes e
