-- A plan in words: a line for the head, and one for each record after it.
use Rattle.std.specs.Prelude.{ℕ, List, ◌++◌, length, codes, decimal}
use Rattle.plans.specs.Plans.{actions_of, plan_records}
use Rattle.plans.specs.declared.server.Action.{Action}
use Rattle.plans.specs.declared.server.Server.{Server}
use Rattle.std.specs.List.{flat_map}

abbrev pub head_line : ℕ → List ℕ
head_line count = codes "plan of " ++ (decimal count ++ codes " records\n")

-- an action, without its line feed
abbrev pub action_text : Action → List ℕ
action_text a =
    codes "action " ++ (decimal a.number ++ (codes " load " ++ (decimal a.task.load ++ (codes " limit " ++ (decimal a.task.limit ++ (codes " period " ++ decimal a.task.period))))))

abbrev pub action_line_of : Action → List ℕ
action_line_of a = action_text a ++ codes "\n"

abbrev pub server_line_of : Server → List ℕ
server_line_of s = codes "server " ++ (decimal s.number ++ (codes " cap " ++ (decimal s.cap ++ codes "\n")))

-- a server and its actions
abbrev pub server_lines : Server → List ℕ
server_lines s = server_line_of s ++ flat_map action_line_of (actions_of s)

abbrev pub listing : List Server → List ℕ
listing ss = head_line (length (plan_records ss)) ++ flat_map server_lines ss
