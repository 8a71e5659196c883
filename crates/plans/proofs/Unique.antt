-- Two plans with the same bytes say the same.
use Rattle.std.proofs.Common.{◌≡◌, ℕ, cond, List, [], ◌∷◌, ◌++◌, map, drop, sym, refl, ap, ◌∙◌, append-nil}
use Rattle.plans.proofs.NoFault.{encoding_records}
use Rattle.plans.specs.Faults.{count_of, is_server, records}
use Rattle.plans.specs.Plans.{action_record, actions_of, body_records, server_record}
use Rattle.plans.specs.Reads.{Reads, Told, contents, encoding_of, servers_of}
use Rattle.plans.specs.declared.plan.Plan.{Plan}
use Rattle.plans.specs.declared.record.Record.{Record}
use Rattle.plans.specs.declared.server.Action.{Action}
use Rattle.plans.specs.declared.server.Server.{Server}

-- records gathered from their end: the actions still without a server, and the servers
abbrev Gathered : Type 0
Gathered = List Action × List Told

abbrev gather : Record → Gathered → Gathered
gather r g =
    cond (is_server r) ([], (r.number, r.first, g.0) ∷ g.1)
    (record { number = r.number; task = record { load = r.first; limit = r.second; period = r.third } } ∷ g.0, g.1)

gathered : List Record → Gathered
gathered [] = ([], [])
gathered (r ∷ rs) = gather r (gathered rs)

abbrev told : Server → Told
told s = (s.number, s.cap, actions_of s)

gathered_actions : (xs : List Action) (rs : List Record) → gathered (map action_record xs ++ rs) ≡ (xs ++ (gathered rs).0, (gathered rs).1)
unfolding gathered
gathered_actions [] rs = refl
gathered_actions (a ∷ xs) rs = ap (gather (action_record a)) (gathered_actions xs rs)

gathered_body : (ss : List Server) → gathered (body_records ss) ≡ ([], map told ss)
unfolding gathered
gathered_body [] = refl
gathered_body (s ∷ ss) =
    ap (gather (server_record s)) (gathered_actions (actions_of s) (body_records ss))
    ∙ ap (λ (g : Gathered). ([], (s.number, s.cap, actions_of s ++ g.0) ∷ g.1)) (gathered_body ss)
    ∙ ap (λ xs. ([], (s.number, s.cap, xs) ∷ map told ss)) (append-nil (actions_of s))

same_contents : (p q : Plan) → encoding_of p ≡ encoding_of q → contents p ≡ contents q
same_contents p q e =
    let same = sym (encoding_records (servers_of p) p.ok) ∙ ap (λ bytes. records bytes (count_of bytes)) e ∙ encoding_records (servers_of q) q.ok in
    sym (ap (λ (g : Gathered). g.1) (gathered_body (servers_of p))) ∙ ap (λ rs. (gathered (drop 1 rs)).1) same ∙ ap (λ (g : Gathered). g.1) (gathered_body (servers_of q))

pub reads : (bytes : List ℕ) (p : Plan) → bytes ≡ encoding_of p → Reads bytes p
reads bytes p e = record { encoded = e; only = λ q f. same_contents q p (sym f ∙ e) }
