-- The records of servers, and what the checks find among them.
use Rattle.std.proofs.Common.{◌≡◌, ℕ, ◌-◌, true, false, ◌||◌, eqb, ltb, List, [], ◌∷◌, ◌++◌, map, length, get_or, take, filter, sym, refl, ap, ◌∙◌, arith}
use Rattle.plans.proofs.Lasts.{last_of_push, split_last}
use Rattle.plans.specs.Faults.{any_server, check, is_server, latest, record_check}
use Rattle.plans.specs.Numbers.{has}
use Rattle.plans.specs.Plans.{action_record, actions_of, body_records, own_records, server_record}
use Rattle.plans.specs.Steps.{check_after, last_actions}
use Rattle.plans.specs.declared.record.Record.{Record}
use Rattle.plans.specs.declared.server.Action.{Action}
use Rattle.plans.specs.declared.server.Server.{Server}
use Rattle.std.proofs.lemmas.List.Elements.{filter-append}
use Rattle.std.proofs.lemmas.List.{flat_map_more}
use Rattle.std.proofs.lemmas.Bool.{lt-ltb, or_right}

-- one more server has its records at the end
pub body_push : (ss : List Server) (s : Server) → body_records (ss ++ s ∷ []) ≡ body_records ss ++ own_records s
body_push ss s = sym (flat_map_more own_records [] ss s)

-- a number is found in a list as it is found in what the list is mapped to
pub has_map : {X Y : Type 0} (g : Y → ℕ) (f : X → Y) (n : ℕ) (xs : List X) → has g n (map f xs) ≡ has (λ x. g (f x)) n xs
has_map g f n [] = refl
has_map g f n (x ∷ xs) = ap (λ b. eqb (g (f x)) n || b) (has_map g f n xs)

no_servers : (xs : List Action) → filter is_server (map action_record xs) ≡ []
no_servers [] = refl
no_servers (a ∷ xs) = no_servers xs

-- the server records are those of the servers
servers_kept : (ss : List Server) → filter is_server (body_records ss) ≡ map server_record ss
servers_kept [] = refl
servers_kept (s ∷ ss) =
    ap (λ rs. server_record s ∷ rs) (filter-append is_server (map action_record (actions_of s)) (body_records ss) ∙ (λ i. no_servers (actions_of s) i ++ servers_kept ss i))

pub any_body : (ss : List Server) → any_server (body_records ss) ≡ ltb 0 (length ss)
any_body [] = refl
any_body (s ∷ ss) = sym (lt-ltb 0 (length (s ∷ ss)) (omega arith))

-- after a server, whatever stands before it
pub any_own : (rs : List Record) (s : Server) (later : List Record) → any_server (rs ++ server_record s ∷ later) ≡ true
any_own [] s later = refl
any_own (r ∷ rs) s later = or_right (is_server r) _ (any_own rs s later)

none_later : (xs : List Action) → any_server (map action_record xs) ≡ false
none_later [] = refl
none_later (a ∷ xs) = none_later xs

-- the records after the last server are its actions
pub latest_own : (rs : List Record) (s : Server) (xs : List Action) → latest (rs ++ server_record s ∷ map action_record xs) ≡ map action_record xs
latest_own [] s xs = rw (none_later xs) refl
latest_own (r ∷ rs) s xs = rw (any_own rs s (map action_record xs)) (latest_own rs s xs)

pub latest_push : (ss : List Server) (s : Server) → latest (body_records (ss ++ s ∷ [])) ≡ map action_record (actions_of s)
latest_push ss s = ap latest (body_push ss s) ∙ latest_own (body_records ss) s (actions_of s)

latest_body : (ss : List Server) → latest (body_records ss) ≡ map action_record (last_actions ss)
latest_body [] = refl
latest_body (s ∷ ss) =
    let n = length (s ∷ ss) - 1 in
    let e = split_last (s ∷ ss) s (omega arith) in
    ap (λ l. latest (body_records l)) e ∙ latest_push (take n (s ∷ ss)) (get_or (s ∷ ss) n s)
    ∙ ap (map action_record) (sym (ap last_actions e ∙ last_of_push (take n (s ∷ ss)) (get_or (s ∷ ss) n s)))

-- what a check finds among the records of servers, it finds among the servers
pub check_body : (h : Record) (ss : List Server) (r : Record) → check (h ∷ body_records ss) r ≡ check_after ss r
check_body h ss r =
    λ i. record_check (any_body ss i)
    ((ap (has (λ b. b.number) r.number) (servers_kept ss) ∙ has_map (λ b. b.number) server_record r.number ss) i)
    ((ap (has (λ b. b.number) r.number) (latest_body ss) ∙ has_map (λ b. b.number) action_record r.number (last_actions ss)) i) r
