-- The last server of a list, and one more action in it.
use Rattle.std.proofs.Common.{◌≡◌, ℕ, ◌+◌, ◌-◌, ◌<◌, List, [], ◌∷◌, ◌++◌, length, get_or, take, set, sym, refl, ap, ◌∙◌, arith}
use Rattle.plans.specs.Plans.{actions_of}
use Rattle.plans.specs.Steps.{ActionAdded, last_actions}
use Rattle.plans.specs.declared.server.Action.{Action}
use Rattle.plans.specs.declared.server.Server.{Server}
use Rattle.std.proofs.lemmas.List.{length-take-le, set_at, take_all, take_more}

pub split_last : {X : Type 0} (xs : List X) (d : X) → 0 < length xs → xs ≡ take (length xs - 1) xs ++ get_or xs (length xs - 1) d ∷ []
split_last xs d h =
    let n : length xs - 1 + 1 ≡ length xs = omega arith in
    sym (take_all (length xs - 1 + 1) xs (omega arith)) ∙ take_more xs (length xs - 1) d (omega arith)

pub last_of_push : (ss : List Server) (s : Server) → last_actions (ss ++ s ∷ []) ≡ actions_of s
last_of_push [] s = refl
last_of_push (r ∷ []) s = refl
last_of_push (r ∷ t ∷ ss) s = last_of_push (t ∷ ss) s

-- the actions of the server that stands last
pub last_actions_lem : (ss : List Server) (s : Server) → 0 < length ss → s ≡ get_or ss (length ss - 1) s → last_actions ss ≡ actions_of s
last_actions_lem ss s h read =
    ap last_actions (split_last ss s h) ∙ last_of_push (take (length ss - 1) ss) (get_or ss (length ss - 1) s) ∙ ap actions_of (sym read)

-- the last server is replaced by one with an action more
pub action_added : (ss : List Server) (n : ℕ) (a : Action) (old new : Server) → n ≡ length ss → 0 < n → old ≡ get_or ss (n - 1) old → new.number ≡ old.number → new.cap ≡ old.cap → actions_of new ≡ actions_of old ++ a ∷ [] → ActionAdded a ss (set ss (n - 1) new)
action_added ss n a old new e h read named capped longer =
    let some : 0 < length ss = omega arith in
    let whole : length ss - 1 + 1 ≡ length ss = omega arith in
    let at_end : ss ≡ take (n - 1) ss ++ old ∷ [] =
    rw e (split_last ss old some ∙ ap (λ s. take (length ss - 1) ss ++ s ∷ []) (sym (rw e at read))) in
    let long : length (take (n - 1) ss) ≡ n - 1 = length-take-le (n - 1) ss (omega arith) in
    record {
      front = take (n - 1) ss;
      old = old;
      new = new;
      before = at_end;
      after = ap (λ xs. set xs (n - 1) new) at_end ∙ set_at (take (n - 1) ss) old [] new (n - 1) long;
      named = named;
      capped = capped;
      longer = longer;
    }
