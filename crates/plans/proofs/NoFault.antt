-- The encoding of a valid plan has no fault.
use Rattle.std.proofs.Common.{◌≡◌, ℕ, zero, suc, ◌+◌, ◌*◌, ◌<◌, ◌≤◌, true, false, ltb, List, [], ◌∷◌, ◌++◌, map, length, get_or, take, None, Err, MatchBool, filter, sym, refl, ap, ◌∙◌, subst, arith, below_more}
use Rattle.limits.specs.Ranges.{most_ticks, servers, unit}
use Rattle.limits.specs.declared.fault.Fault.{Fault}
use Rattle.limits.specs.declared.refusal.Refusal.TheVariants.{PlanSize}
use Rattle.plans.proofs.Bodies.{any_own, body_push, check_body, has_map, latest_own}
use Rattle.plans.proofs.Distinct.{all_middle, distinct_middle}
use Rattle.plans.proofs.Passing.{action_passes, server_passes}
use Rattle.plans.proofs.Words.{Fit, length_written, record_written, records_written}
use Rattle.plans.specs.Faults.{FirstRecord, InOrder, any_server, check, count_of, is_server, latest, plan_fault_of, records, sized}
use Rattle.plans.specs.Numbers.{distinct, has}
use Rattle.plans.specs.Plans.{action_record, actions_of, body_records, encoding, head_record, own_records, plan_records, server_record, valid, valid_action, valid_server, valid_servers, within}
use Rattle.plans.specs.Reads.{NotRead, servers_of}
use Rattle.plans.specs.Records.{record_at}
use Rattle.plans.specs.Steps.{ReadServers}
use Rattle.limits.specs.declared.fault.ReadError.{ReadError}
use Rattle.limits.specs.declared.fault.ReadError.TheVariants.{Fault as AtFault, NoMemory}
use Rattle.plans.specs.declared.record.Record.{Record}
use Rattle.plans.specs.declared.server.Action.{Action}
use Rattle.plans.specs.declared.server.Server.{Server}
use Rattle.std.proofs.ByRecursion.{All-append}
use Rattle.std.proofs.lemmas.List.{append_assoc, append-nil, get_or_append_left, get_or_at, length_push, map_push, take_all, take-append-le, take_at}
use Rattle.std.proofs.lemmas.Bool.{and_from, and_parts, both_ways, eq-eqb, le-leb, leb-true, ltb-false, not-true, or_parts}
use Rattle.std.specs.List.{list_all, AllByRecursion as All}

abbrev server_number : Server → ℕ
server_number s = s.number

abbrev action_number : Action → ℕ
action_number a = a.number

abbrev record_number : Record → ℕ
record_number r = r.number

module _ (h : Record) where
  -- each record after the head h passes
  abbrev Clean : List Record → Type 0
  Clean rs = (j : ℕ) → j < length rs → check (h ∷ take j rs) (get_or rs j h) ≡ None

  clean_push : (rs : List Record) (r : Record) → Clean rs → check (h ∷ rs) r ≡ None → Clean (rs ++ r ∷ [])
  clean_push rs r c e j l =
      below_more (λ k. check (h ∷ take k (rs ++ r ∷ [])) (get_or (rs ++ r ∷ []) k h) ≡ None) (length rs)
      (λ k b. (λ i. check (h ∷ take-append-le k rs (r ∷ []) (omega arith) i) (get_or_append_left rs (r ∷ []) h k b i)) ∙ c k b)
      ((λ i. check (h ∷ take_at rs (r ∷ []) (length rs) refl i) (get_or_at rs r [] h (length rs) refl i)) ∙ e)
      j (omega (arith, length_push rs r))

  -- a server's actions, one after another
  clean_actions : (front : List Record) (s : Server) (done todo : List Action) → list_all valid_action (done ++ todo) ≡ true → distinct action_number (done ++ todo) ≡ true → Clean (front ++ server_record s ∷ map action_record done) → Clean (front ++ server_record s ∷ map action_record (done ++ todo))
  clean_actions front s done [] v d c = subst (λ xs. Clean (front ++ server_record s ∷ map action_record xs)) (sym (append-nil done)) c
  clean_actions front s done (a ∷ todo) v d c =
      let before = front ++ server_record s ∷ map action_record done in
      let fresh : has record_number a.number (latest before) ≡ false =
      ap (has record_number a.number) (latest_own front s done) ∙ has_map record_number action_record a.number done ∙ distinct_middle action_number done a todo d in
      let passes : check (h ∷ before) (action_record a) ≡ None =
      action_passes (any_server before) (has record_number a.number (filter is_server before)) (has record_number a.number (latest before)) a
      (record { ranges = all_middle valid_action done a todo v; owned = any_own front s (map action_record done); fresh = fresh }) in
      let pushed : before ++ action_record a ∷ [] ≡ front ++ server_record s ∷ map action_record (done ++ a ∷ []) =
      append_assoc front (server_record s ∷ map action_record done) (action_record a ∷ []) ∙ ap (λ rs. front ++ server_record s ∷ rs) (sym (map_push action_record done a)) in
      let regroup : (done ++ a ∷ []) ++ todo ≡ done ++ a ∷ todo = append_assoc done (a ∷ []) todo in
      subst (λ xs. Clean (front ++ server_record s ∷ map action_record xs)) regroup
      (clean_actions front s (done ++ a ∷ []) todo (ap (list_all valid_action) regroup ∙ v) (ap (distinct action_number) regroup ∙ d)
      (subst Clean pushed (clean_push before (action_record a) c passes)))

  clean_servers : (done todo : List Server) → valid_servers (done ++ todo) ≡ true → Clean (body_records done) → Clean (body_records (done ++ todo))
  clean_servers done [] v c = subst (λ ss. Clean (body_records ss)) (sym (append-nil done)) c
  clean_servers done (s ∷ todo) v c =
      let b = and_parts (list_all valid_server (done ++ s ∷ todo)) _ v in
      let own = all_middle valid_server done s todo b.0 in
      let n = and_parts (within s.number servers) _ own in
      let k = and_parts (within s.cap unit) _ n.1 in
      let l = and_parts (list_all valid_action (actions_of s)) _ k.1 in
      let passes : check (h ∷ body_records done) (server_record s) ≡ None =
      check_body h done (server_record s)
      ∙ server_passes true (has server_number s.number done) true s.number s.cap
      (record { number_in = n.0; cap_in_lem = k.0; fresh = distinct_middle server_number done s todo b.1 }) in
      let regroup : (done ++ s ∷ []) ++ todo ≡ done ++ s ∷ todo = append_assoc done (s ∷ []) todo in
      subst (λ ss. Clean (body_records ss)) regroup
      (clean_servers (done ++ s ∷ []) todo (ap valid_servers regroup ∙ v)
      (subst Clean (sym (body_push done s)) (clean_actions (body_records done) s [] (actions_of s) l.0 l.1 (clean_push (body_records done) (server_record s) c passes))))

-- what is in range fits its bytes
within_true : (n top : ℕ) → within n top ≡ true → n ≤ top
within_true n top e = ltb-false top n (or_parts (ltb n 1) (ltb top n) (not-true _ e)).1

fit_action : (a : Action) → valid_action a ≡ true → Fit (action_record a)
fit_action a v =
    let n = and_parts (within a.number 255) _ v in
    let l = and_parts (within a.task.load most_ticks) _ n.1 in
    let p = and_parts (within a.task.period most_ticks) _ l.1 in
    let number = within_true a.number 255 n.0 in
    let load = within_true a.task.load most_ticks l.0 in
    let period = within_true a.task.period most_ticks p.0 in
    let limit = within_true a.task.limit a.task.period p.1 in
    record { kind_fits = omega arith; number_fits = omega arith; zeros_fit = omega arith; first_fits = omega arith; second_fits = omega arith; third_fits = omega arith }

fit_actions : (xs : List Action) → list_all valid_action xs ≡ true → All Fit (map action_record xs)
fit_actions [] v = tt
fit_actions (a ∷ xs) v = let b = and_parts (valid_action a) _ v in (fit_action a b.0, fit_actions xs b.1)

fit_own : (s : Server) → valid_server s ≡ true → All Fit (own_records s)
fit_own s v =
    let n = and_parts (within s.number servers) _ v in
    let k = and_parts (within s.cap unit) _ n.1 in
    let l = and_parts (list_all valid_action (actions_of s)) _ k.1 in
    let number = within_true s.number servers n.0 in
    let bound = within_true s.cap unit k.0 in
    (record { kind_fits = omega arith; number_fits = omega arith; zeros_fit = omega arith; first_fits = omega arith; second_fits = omega arith; third_fits = omega arith }, fit_actions (actions_of s) l.0)

fit_body : (ss : List Server) → list_all valid_server ss ≡ true → All Fit (body_records ss)
fit_body [] v = tt
fit_body (s ∷ ss) v = let b = and_parts (valid_server s) _ v in All-append Fit (own_records s) (body_records ss) (fit_own s b.0) (fit_body ss b.1)

module _ (ss : List Server) (v : valid ss ≡ true) where
  size : length (plan_records ss) ≤ 1024
  size = leb-true _ 1024 (and_parts (valid_servers ss) _ v).1

  fit : All Fit (plan_records ss)
  fit =
      let b = and_parts (list_all valid_server ss) _ (and_parts (valid_servers ss) _ v).0 in
      let few = size in
      (record { kind_fits = omega arith; number_fits = omega arith; zeros_fit = omega arith; first_fits = omega arith; second_fits = omega arith; third_fits = omega arith }, fit_body ss b.0)

  count : count_of (encoding ss) ≡ length (plan_records ss)
  count = ap (λ (r : Record). r.first) (record_written (plan_records ss) 0 (head_record 0) fit (omega arith)) ∙ omega arith

  pub encoding_sized : sized (encoding ss) ≡ true
  encoding_sized =
      let long = length_written (plan_records ss) in
      let few = size in
      let told = count in
      and_from _ _ (le-leb 16 (length (encoding ss)) (omega arith))
      (and_from _ _ (eq-eqb (length (encoding ss)) (16 * count_of (encoding ss)) (omega arith))
      (and_from _ _ (le-leb 1 (count_of (encoding ss)) (omega arith)) (le-leb (count_of (encoding ss)) 1024 (omega arith))))

  -- the bytes have the plan's records
  pub encoding_records : records (encoding ss) (count_of (encoding ss)) ≡ plan_records ss
  encoding_records = let told = count in records_written (plan_records ss) (count_of (encoding ss)) fit (omega arith) ∙ take_all (count_of (encoding ss)) (plan_records ss) (omega arith)

  planned : (j : ℕ) → j < length (plan_records ss) → check (take j (plan_records ss)) (get_or (plan_records ss) j (head_record (length (body_records ss) + 1))) ≡ None
  planned zero l = refl
  planned (suc j) l = clean_servers (head_record (length (body_records ss) + 1)) [] ss (and_parts (valid_servers ss) _ v).0 (λ k b. absurd (omega arith)) j (omega arith)

  pub encoding_in_order : InOrder (encoding ss) (count_of (encoding ss))
  encoding_in_order j l =
      let told = count in
      (λ i. check (records_written (plan_records ss) j fit (omega arith) i) (record_written (plan_records ss) j (head_record (length (body_records ss) + 1)) fit (omega arith) i))
      ∙ planned j (omega arith)

-- so bytes with a fault are the encoding of no valid plan
no_plan_first : (bytes : List ℕ) (f : Fault) → FirstRecord bytes f → (ss : List Server) → valid ss ≡ true → bytes ≡ encoding ss → ⊥
no_plan_first bytes f p ss v e =
    let none : check (records bytes f.place) (record_at bytes f.place) ≡ None =
    subst (λ bs. InOrder bs (count_of bs)) (sym e) (encoding_in_order ss v) f.place p.inside in
    let some = p.here in
    absurd (grind arith)

pub not_sized : (bytes : List ℕ) (f : Fault) → sized bytes ≡ false → f ≡ plan_fault_of PlanSize 0 → NotRead bytes (AtFault f)
not_sized bytes f s e =
    (subst (λ b. MatchBool b (FirstRecord bytes f) (f ≡ plan_fault_of PlanSize 0)) (sym s) e, λ p same. both_ways _ s (ap sized same ∙ encoding_sized (servers_of p) p.ok))

pub not_in_order : (bytes : List ℕ) (e : ReadError) → sized bytes ≡ true → ReadServers bytes (Err e) → NotRead bytes e
not_in_order bytes (AtFault f) s r =
    (subst (λ b. MatchBool b (FirstRecord bytes f) (f ≡ plan_fault_of PlanSize 0)) (sym s) r, λ p same. no_plan_first bytes f r (servers_of p) p.ok same)
not_in_order bytes NoMemory s r = tt
