-- When each action of a plan ends if it starts at instant 0 under the late rule.
use Rattle.std.specs.Prelude.{ℕ, List, ◌++◌, Ok, Err, codes, decimal, Result}
use Rattle.limits.specs.Refusals.{number}
use Rattle.limits.specs.declared.refusal.Refusal.{Refusal}
use Rattle.plans.specs.Plans.{actions_of}
use Rattle.plans.specs.declared.server.Action.{Action}
use Rattle.plans.specs.declared.server.Server.{Server}
use Rattle.release.specs.Actions.{action}
use Rattle.release.specs.Openings.{forecast_answer}
use Rattle.release.specs.Rules.{late}
use Rattle.std.specs.List.{flat_map}

-- 0 and the end, or the refusal and 0
abbrev pub end_text : Result ℕ Refusal → List ℕ
end_text (Ok end) = codes " 0 " ++ decimal end
end_text (Err why) = codes " " ++ (decimal (number why) ++ codes " 0")

-- of an action of a server, without its line feed
abbrev pub forecast_text : ℕ → Action → List ℕ
forecast_text server a =
    codes "forecast " ++ (decimal server ++ (codes " " ++ (decimal a.number ++ end_text (forecast_answer late (action 0 a.task.load a.task.limit a.task.period)))))

abbrev pub forecast_line_of : ℕ → Action → List ℕ
forecast_line_of server a = forecast_text server a ++ codes "\n"

-- of each action of a server
abbrev pub server_forecasts : Server → List ℕ
server_forecasts s = flat_map (forecast_line_of s.number) (actions_of s)

abbrev pub forecast_lines : List Server → List ℕ
forecast_lines ss = flat_map server_forecasts ss
