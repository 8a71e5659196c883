-- How many records a plan has.
use Rattle.std.proofs.Common.{◌≡◌, ◌+◌, ◌<◌, List, [], ◌∷◌, length, refl, arith}
use Rattle.plans.specs.Plans.{action_record, actions_of, body_records, own_records, plan_records, valid_servers}
use Rattle.plans.specs.Reads.{servers_of}
use Rattle.plans.specs.declared.plan.Plan.{Plan}
use Rattle.plans.specs.declared.server.Server.{Server}
use Rattle.std.proofs.lemmas.Bool.{and_parts, leb-true}
use Rattle.std.proofs.lemmas.List.{length-append, length-map}
use Rattle.std.proofs.lemmas.List.Sums.{sum_by-cons}
use Rattle.std.specs.List.{sum_by}

-- each server's record and those of its actions
pub counted : (ss : List Server) → sum_by (λ s. 1 + length (actions_of s)) ss ≡ length (body_records ss)
counted [] = refl
counted (s ∷ ss) =
    omega (arith, counted ss, sum_by-cons (λ s. 1 + length (actions_of s)) s ss, length-append (own_records s) (body_records ss), length-map (actions_of s) action_record)

pub few_counted : (p : Plan) (ss : List Server) → ss ≡ servers_of p → sum_by (λ s. 1 + length (actions_of s)) ss < 1024
few_counted p ss e =
    rw e (omega (arith, counted (servers_of p), leb-true (length (plan_records (servers_of p))) 1024 (and_parts (valid_servers (servers_of p)) _ p.ok).1))
