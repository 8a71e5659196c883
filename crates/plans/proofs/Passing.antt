-- Which servers and actions pass the checks of their records.
use Rattle.std.proofs.Common.{◌≡◌, ℕ, ◌<◌, Bool, true, false, not, eqb, ltb, None, refl, arith}
use Rattle.limits.proofs.Passed.{none_or, none_refuse, or_none, refuse_none}
use Rattle.limits.specs.Checks.{action_check, cap_check, server_check}
use Rattle.limits.specs.Ranges.{most_ticks, outside, servers, unit}
use Rattle.plans.specs.Faults.{record_check}
use Rattle.plans.specs.Plans.{action_record, valid_action, within}
use Rattle.plans.specs.declared.record.Record.{Record}
use Rattle.plans.specs.declared.server.Action.{Action}
use Rattle.std.proofs.lemmas.Bool.{and_from, and_parts, eqb-false, le-ltb, ltb-false, ne_eqb, not-false, not_from_false, not_from_true, not-true, or_from, or_parts}

-- the record of a server
abbrev named : ℕ → ℕ → Record
named n c = record { kind = 1; number = n; zeros = 0; first = c; second = 0; third = 0 }

-- a server's record passes where its values are in range and no server has its number
pub record ServerPasses (n c : ℕ) (there : Bool) : Type 0 where
  pub number_in : within n servers ≡ true
  pub cap_in_lem : within c unit ≡ true
  pub fresh : there ≡ false

pub server_passed : (any there also : Bool) (n c : ℕ) → record_check any there also (named n c) ≡ None → ServerPasses n c there
server_passed any there also n c e =
    let a = or_none (server_check n) _ e in
    let b = or_none (cap_check c) _ a.1 in
    record {
      number_in = not_from_false _ (refuse_none (outside n servers) _ None a.0).0;
      cap_in_lem = not_from_false _ (refuse_none (outside c unit) _ None b.0).0;
      fresh = (refuse_none there _ None b.1).0;
    }

pub server_passes : (any there also : Bool) (n c : ℕ) → ServerPasses n c there → record_check any there also (named n c) ≡ None
server_passes any there also n c p =
    none_or (server_check n) _ (none_refuse (outside n servers) _ None (not-true _ p.number_in) refl)
    (none_or (cap_check c) _ (none_refuse (outside c unit) _ None (not-true _ p.cap_in_lem) refl)
    (none_refuse there _ None p.fresh refl))

-- an action's record passes where its values are in range, a server stands before it, and the last one lacks its number
pub record ActionPasses (a : Action) (any there : Bool) : Type 0 where
  pub ranges : valid_action a ≡ true
  pub owned : any ≡ true
  pub fresh : there ≡ false

pub action_passed : (any also there : Bool) (a : Action) → a.number < 256 → record_check any also there (action_record a) ≡ None → ActionPasses a any there
action_passed any also there a small e =
    let f = refuse_none (not (not (eqb a.number 0))) _ _ e in
    let o = refuse_none (not any) _ _ f.1 in
    let r = or_none (action_check a.task.load a.task.limit a.task.period) _ o.1 in
    let l = refuse_none (outside a.task.load most_ticks) _ _ r.0 in
    let p = refuse_none (outside a.task.period most_ticks) _ _ l.1 in
    let m = refuse_none (outside a.task.limit a.task.period) _ _ p.1 in
    let some = eqb-false a.number 0 (not-true _ (not-false _ f.0)) in
    let number : outside a.number 255 ≡ false = or_from (ltb a.number 1) (ltb 255 a.number) (le-ltb a.number 1 (omega arith)) (le-ltb 255 a.number (omega arith)) in
    record {
      ranges = and_from _ _ (not_from_false _ number) (and_from _ _ (not_from_false _ l.0) (and_from _ _ (not_from_false _ p.0) (not_from_false _ m.0)));
      owned = not-false any o.0;
      fresh = (refuse_none there _ None r.1).0;
    }

pub action_passes : (any also there : Bool) (a : Action) → ActionPasses a any there → record_check any also there (action_record a) ≡ None
action_passes any also there a q =
    let n = and_parts (within a.number 255) _ q.ranges in
    let l = and_parts (within a.task.load most_ticks) _ n.1 in
    let p = and_parts (within a.task.period most_ticks) _ l.1 in
    let low = ltb-false a.number 1 (or_parts (ltb a.number 1) (ltb 255 a.number) (not-true _ n.0)).0 in
    none_refuse (not (not (eqb a.number 0))) _ _ (not_from_true _ (not_from_false _ (ne_eqb a.number 0 (λ e. omega arith))))
    (none_refuse (not any) _ _ (not_from_true _ q.owned)
    (none_or (action_check a.task.load a.task.limit a.task.period) _
    (none_refuse (outside a.task.load most_ticks) _ _ (not-true _ l.0) (none_refuse (outside a.task.period most_ticks) _ _ (not-true _ p.0) (none_refuse (outside a.task.limit a.task.period) _ _ (not-true _ p.1) refl)))
    (none_refuse there _ None q.fresh refl)))
