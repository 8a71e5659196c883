-- What one more record does to the servers read so far.
use Rattle.std.proofs.Common.{◌≡◌, ℕ, ◌<◌, true, false, ltb, List, [], ◌∷◌, ◌++◌, map, length, None, sym, ap, ◌∙◌}
use Rattle.plans.proofs.Bodies.{body_push}
use Rattle.plans.proofs.Distinct.{all_front, all_middle, all_push, distinct_front, distinct_middle, distinct_push}
use Rattle.plans.proofs.Lasts.{last_of_push}
use Rattle.plans.proofs.Passing.{action_passed, server_passed}
use Rattle.plans.specs.Numbers.{distinct, has}
use Rattle.limits.specs.Ranges.{servers, unit}
use Rattle.plans.specs.Plans.{action_record, actions_of, body_records, own_records, server_record, valid_action, valid_server, valid_servers, within}
use Rattle.plans.specs.Steps.{Added, check_after, entry_record, last_actions}
use Rattle.plans.specs.declared.entry.Entry.{Entry}
use Rattle.plans.specs.declared.entry.Entry.TheVariants.{NewServer, NewAction}
use Rattle.plans.specs.declared.server.Action.{Action}
use Rattle.plans.specs.declared.server.Server.{Server}
use Rattle.std.proofs.lemmas.List.{append_assoc, map_push}
use Rattle.std.proofs.lemmas.Bool.{and_from, and_parts}
use Rattle.std.specs.List.{list_all}

own_push : (old new : Server) (a : Action) → new.number ≡ old.number → new.cap ≡ old.cap → actions_of new ≡ actions_of old ++ a ∷ [] → own_records new ≡ own_records old ++ action_record a ∷ []
own_push old new a n c more =
    (λ i. record { kind = 1; number = n i; zeros = 0; first = c i; second = 0; third = 0 } ∷ map action_record (more i))
    ∙ ap (λ rs. server_record old ∷ rs) (map_push action_record (actions_of old) a)

-- the entry's record comes after those of the servers
pub grown_records : (e : Entry) (ss ts : List Server) → Added e ss ts → body_records ts ≡ body_records ss ++ entry_record e ∷ []
grown_records (NewServer n c) ss ts g =
    ap body_records g.after ∙ body_push ss g.new
    ∙ (λ i. body_records ss ++ record { kind = 1; number = g.named i; zeros = 0; first = g.capped i; second = 0; third = 0 } ∷ map action_record (g.bare i))
grown_records (NewAction a) ss ts g =
    ap body_records g.after ∙ body_push g.front g.new
    ∙ ap (λ rs. body_records g.front ++ rs) (own_push g.old g.new a g.named g.capped g.longer)
    ∙ sym (append_assoc (body_records g.front) (own_records g.old) (action_record a ∷ []))
    ∙ ap (λ rs. rs ++ action_record a ∷ []) (sym (ap body_records g.before ∙ body_push g.front g.old))

-- the number of a server, and of an action
abbrev server_number : Server → ℕ
server_number s = s.number

abbrev action_number : Action → ℕ
action_number a = a.number

-- servers stay valid with an entry that passed
pub grown_valid : (e : Entry) (ss ts : List Server) → Added e ss ts → (entry_record e).number < 256 → check_after ss (entry_record e) ≡ None → valid_servers ss ≡ true → valid_servers ts ≡ true
grown_valid (NewServer n c) ss ts g small passed valid =
    let p = server_passed true (has server_number n ss) true n c passed in
    let v = and_parts (list_all valid_server ss) _ valid in
    let new : valid_server g.new ≡ true =
    and_from _ _ (ap (λ m. within m servers) g.named ∙ p.number_in) (and_from _ _ (ap (λ m. within m unit) g.capped ∙ p.cap_in_lem) (and_from _ _ (ap (list_all valid_action) g.bare) (ap (distinct action_number) g.bare))) in
    ap valid_servers g.after
    ∙ and_from _ _ (all_push valid_server ss g.new v.0 new) (distinct_push server_number ss g.new v.1 (ap (λ m. has server_number m ss) g.named ∙ p.fresh))
grown_valid (NewAction a) ss ts g small passed valid =
    let p = action_passed (ltb 0 (length ss)) true (has action_number a.number (last_actions ss)) a small passed in
    let last : last_actions ss ≡ actions_of g.old = ap last_actions g.before ∙ last_of_push g.front g.old in
    let v = and_parts (list_all valid_server (g.front ++ g.old ∷ [])) _ (ap valid_servers (sym g.before) ∙ valid) in
    let old = all_middle valid_server g.front g.old [] v.0 in
    let o = and_parts (within g.old.number servers) _ old in
    let q = and_parts (within g.old.cap unit) _ o.1 in
    let r = and_parts (list_all valid_action (actions_of g.old)) _ q.1 in
    let fresh : has action_number a.number (actions_of g.old) ≡ false = ap (has action_number a.number) (sym last) ∙ p.fresh in
    let new : valid_server g.new ≡ true =
    and_from _ _ (ap (λ m. within m servers) g.named ∙ o.0) (and_from _ _ (ap (λ m. within m unit) g.capped ∙ q.0)
    (and_from _ _ (ap (list_all valid_action) g.longer ∙ all_push valid_action (actions_of g.old) a r.0 p.ranges)
    (ap (distinct action_number) g.longer ∙ distinct_push action_number (actions_of g.old) a r.1 fresh))) in
    ap valid_servers g.after
    ∙ and_from _ _ (all_push valid_server g.front g.new (all_front valid_server g.front _ v.0) new)
    (distinct_push server_number g.front g.new (distinct_front server_number g.front _ v.1)
    (ap (λ m. has server_number m g.front) g.named ∙ distinct_middle server_number g.front g.old [] v.1))
