use Rattle.limits.specs.Tasks.{task}
use Rattle.std.proofs.Common.{◌≡◌, ℕ, ◌-◌, ◌*◌, ◌/◌, ◌≤◌, true, false, List, [], ◌∷◌, Ok, Err, refl, subst, inl, inr, div-mul-le_self, arith}
use Rattle.limits.specs.declared.refusal.Refusal.TheVariants.{ActionAtWork, NotAdmitted}
use Rattle.release.specs.Actions.{Action, Meaning, action, boundary, ceil, first_amount_of, first_boundary_of, forecast}
use Rattle.release.specs.Rules.{WithinShare, early, in_range, late}
use Rattle.share.proofs.Keeping.{share_holds}
use Rattle.share.proofs.examples.examples_hold.Goals as goal
use Rattle.share.specs.Answers.{Answer}
use Rattle.share.specs.Examples.{admission, after, caps_over, ended_at_rest, ended_early, ended_late, forecast_early, late_server, never_ended, not_released, not_served, one_tick_more, past_count, plain, refused_freely, released_early, served, served_at_rest, spoken, worked}
use Rattle.share.specs.Plays.{answers_of}
use Rattle.share.specs.Share.{Began, Ended, Kept, WorksOn}
use Rattle.share.specs.Traces.{Begins, Trace, caps_held, heard, nothing, spelt}
use Rattle.share.specs.declared.calls.Call.{Call}
use Rattle.share.specs.declared.calls.Call.TheVariants.{Admit, Leave, Start, Tick, Advance}
use Rattle.share.specs.declared.calls.Outcome.TheVariants.{Started}
use Rattle.slots.specs.Advances.{span}
use Rattle.slots.specs.Steps.{fresh}
use Rattle.std.proofs.lemmas.Bool.{both_ways, cond_both}

late_law : WithinShare late
late_law limit period arrival boundary h = absurd (omega arith)

early_law : WithinShare early
early_law limit period arrival boundary h =
    cond_both (in_range limit period arrival boundary) (limit * (boundary - arrival) / period) 0 (λ n. n * period ≤ limit * (boundary - arrival)) (λ _. div-mul-le_self (limit * (boundary - arrival)) period) (λ _. omega arith)

-- what a board answers keeps the law
played_keeps : (rule : Meaning) → WithinShare rule → (calls : List Call) (p : Trace) → heard nothing calls (answers_of rule fresh calls) ≡ p → Kept rule p
played_keeps rule law calls p e = subst (Kept rule) e (share_holds rule law calls).kept

worked_keeps : Kept late worked
unfolding span ceil first_boundary_of first_amount_of forecast
worked_keeps = played_keeps late late_law (Admit 1 500_000 ∷ Admit 2 500_000 ∷ Start 1 (task 3 2 4) ∷ Advance 1 ∷ Start 2 (task 1 1 2) ∷ Advance 7 ∷ Advance 6 ∷ Advance 5 ∷ Advance 4 ∷ Advance 3 ∷ Leave 2 ∷ []) worked refl

early_keeps : Kept early released_early
unfolding span ceil first_boundary_of first_amount_of forecast
early_keeps = played_keeps early early_law (Admit 1 500_000 ∷ Tick ∷ Start 1 (task 3 2 4) ∷ Advance 100 ∷ Advance 100 ∷ Advance 100 ∷ Advance 100 ∷ []) released_early refl

plain_keeps : Kept late plain
unfolding ceil first_boundary_of first_amount_of forecast
plain_keeps = played_keeps late late_law (Admit 1 500_000 ∷ Start 1 (task 2 1 2) ∷ Tick ∷ Tick ∷ Tick ∷ Tick ∷ []) plain refl

-- the action of the others
abbrev k : Action
k = action 0 2 1 2

began : (all : Trace) → Begins (after []) all → Began all 1 k 4
began all part = record { before = spoken admission; answer = Ok (Started 4); arrives = refl; accepts = refl; forecasts = refl; part = part }

-- no server is at work before any call
idle : (s : ℕ) (k : Action) → WorksOn nothing s k → ⊥
idle s k w = let b = w.1.part in let y : ◌≡◌ {A = ℕ} 0 1 = cc in omega arith

served_at_rest_lem : Kept late served_at_rest → ⊥
served_at_rest_lem h = let r = (h.law.ticks nothing _ _ (inl refl) refl).serves_at_work 1 refl in idle 1 r.0 r.1

ended_early_lem : Kept late ended_early → ⊥
ended_early_lem h =
    let e : Ended ended_early 1 k 2 = (omega arith, refl, omega arith) in
    omega (arith, (h.law.actions 1 k 4 (began ended_early (inr (inr (inl refl))))).ends_as_forecast 2 e)

ended_late_lem : Kept late ended_late → ⊥
ended_late_lem h =
    let e : Ended ended_late 1 k 5 = (omega arith, refl, omega arith) in
    omega (arith, (h.law.actions 1 k 4 (began ended_late (inr (inr (inr (inr (inr (inl refl)))))))).ends_as_forecast 5 e)

never_ended_lem : Kept late never_ended → ⊥
unfolding ceil first_boundary_of first_amount_of
never_ended_lem h =
    let e = (h.law.actions 1 k 4 (began never_ended (inr (inr (inr (inr (inl refl))))))).ends_there 2 (omega arith) (refl, λ i l. omega arith) in
    omega (arith, e.2)

ended_at_rest_lem : Kept late ended_at_rest → ⊥
ended_at_rest_lem h = let r = ((h.law.ticks nothing _ _ (inl refl) refl).ends_tell 1).0 refl in idle 1 r.0 r.1

late_server_lem : Kept late late_server → ⊥
late_server_lem h = let z : ◌≡◌ {A = ℕ} 1 0 = (h.law.ticks (after (served ∷ [])) _ _ (inl refl) refl).never_late in omega arith

not_served_lem : Kept late not_served → ⊥
unfolding ceil first_boundary_of first_amount_of
not_served_lem h =
    let z : ◌≡◌ {A = ℕ} 0 1 = (h.law.actions 1 k 4 (began not_served (inr (inr (inl refl))))).served_by_boundary 1 (omega arith, refl) in
    omega arith

not_released_lem : Kept late not_released → ⊥
unfolding ceil first_boundary_of first_amount_of
not_released_lem h =
    let q = after (served ∷ []) in
    let z : false ≡ true = ((h.law.ticks q _ _ (inl refl) refl).releases_tell 1).1 (k, (4, began q (inr (inl refl)), refl), 1, refl, omega arith) in
    both_ways false refl z

forecast_early_lem : Kept late forecast_early → ⊥
unfolding ceil first_boundary_of first_amount_of forecast
forecast_early_lem h =
    let r : ◌≡◌ {A = Answer} (Ok (Started 2)) (Ok (Started 4)) = h.answers_by_checks (spoken admission) (Start 1 (task 2 1 2)) (Ok (Started 2)) (inl refl) in
    let z : ◌≡◌ {A = ℕ} 2 4 = cc in
    omega arith

refused_freely_lem : Kept late refused_freely → ⊥
refused_freely_lem h =
    let r : ◌≡◌ {A = Answer} (Err ActionAtWork) (Err NotAdmitted) = h.answers_by_checks nothing (Leave 1) (Err ActionAtWork) (inl refl) in
    let z : ◌≡◌ {A = ℕ} 0 1 = cc in
    omega arith

caps_over_lem : Kept late caps_over → ⊥
unfolding caps_held
caps_over_lem h = let z : 1_200_000 ≤ 1_000_000 = h.law.caps_fit caps_over (inl refl) in omega arith

one_tick_more_lem : Kept late one_tick_more → ⊥
unfolding ceil first_boundary_of first_amount_of
one_tick_more_lem h =
    let z : ◌≡◌ {A = ℕ} 2 1 = (h.law.actions 1 k 4 (began (spelt one_tick_more) (inr (inr (inl refl))))).served_by_boundary 1 (omega arith, refl) in
    omega arith

past_count_lem : Kept late past_count → ⊥
past_count_lem h =
    let r = h.answers_by_checks nothing _ _ (inl refl) in
    let t = r.1 in
    let e : r.0.ticks ≡ 4 = cc in
    omega (arith, r.2.1)

pub returns : goal.returns
returns c = record {
  answer = refl;
  law = (worked_keeps, (early_keeps, (plain_keeps, (served_at_rest_lem, (ended_early_lem, (ended_late_lem, (never_ended_lem, (ended_at_rest_lem, (late_server_lem, (not_served_lem, (not_released_lem, (forecast_early_lem, (refused_freely_lem, (caps_over_lem, (one_tick_more_lem, (past_count_lem, tt))))))))))))))));
}
