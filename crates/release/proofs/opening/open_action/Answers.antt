use Rattle.std.proofs.Common.{◌≡◌, ℕ, ◌+◌, ◌-◌, ◌*◌, ◌^◌, ◌<◌, ◌≤◌, cond, leb, ltb, Some, None, Ok, Err, Option, MatchOption, SomeIff, ok_or, ⊎_elim, sym, ap, ◌∙◌, arith, rules}
use Rattle.std.specs.Bool.{then_some}
use Rattle.limits.specs.Ranges.{horizon}
use Rattle.limits.specs.declared.refusal.Refusal.TheVariants.{ForecastPastHorizon}
use Rattle.release.proofs.Boundaries.{forecast_from}
use Rattle.release.proofs.Opens.{check_none, check_past}
use Rattle.release.proofs.Values.{ranged}
use Rattle.release.proofs.opening.open_action.Goals as goal
use Rattle.release.specs.Actions.{Action, Meaning, action, ceil, first_amount_of, first_boundary_of, forecast, multiple_from}
use Rattle.release.specs.Forecasts.{values_check}
use Rattle.release.specs.Openings.{opening_answer, opening_of}
use Rattle.release.specs.declared.opening.Opening.{Opening}
use Rattle.std.proofs.lemmas.Bool.{cases_lt, le-leb, lt-leb}
use Rattle.std.proofs.lemmas.Result.{err_from_is_err_and}

-- a boundary that fits 64 bits is kept if it is not past the horizon
kept : (m : ℕ) (fits : Type 0) → (m ≤ horizon → fits) → (first near : Option ℕ) → SomeIff first fits m → MatchOption first (near ≡ None) (λ x. near ≡ then_some (leb x horizon) x) → SomeIff near (m ≤ horizon) m
kept m fits f None near s e = rw e (λ h. s (f h))
kept m fits f (Some x) near s e =
    ⊎_elim
    (λ (h : horizon < x). rw (e, lt-leb x horizon h) (λ l. omega arith))
    (λ (h : x ≤ horizon). rw (e, le-leb x horizon h) (omega arith, s.1))
    (cases_lt horizon x)

module _ (rule : Meaning) (k : Action) (passed : None ≡ values_check k) where
  past : horizon < forecast rule k → Err ForecastPastHorizon ≡ opening_answer rule k
  past h = simp (check_past rule k (sym passed) h)

  -- the first boundary, if it is not past the horizon
  near : (first o : Option ℕ) → SomeIff first ((1 ≤ k.period) × (multiple_from k.arrival k.period < 2 ^ 64)) (multiple_from k.arrival k.period) → MatchOption first (o ≡ None) (λ x. o ≡ then_some (leb x horizon) x) → SomeIff o (multiple_from k.arrival k.period ≤ horizon) (multiple_from k.arrival k.period)
  near first o = kept (multiple_from k.arrival k.period) _ (λ h. let r = ranged k (sym passed) in (r.period_low, omega arith)) first o

  -- a first boundary past the horizon is enough
  far : (multiple_from k.arrival k.period ≤ horizon → ⊥) → Err ForecastPastHorizon ≡ opening_answer rule k
  unfolding first_boundary_of
  far h = let f = forecast_from rule k in past (omega arith)

  -- what the code computes
  module _ {b a m e : ℕ} (boundary : b ≡ multiple_from k.arrival k.period) (counted : a ≡ cond (ltb k.arrival b) (rule k.limit k.period k.arrival b) 0) (left : m ≡ k.load - a) (end : e ≡ b + ceil m k.limit * k.period) where
    abbrev made : Opening
    made = record { boundary = b; amount = a; end = e }

    same : made ≡ opening_of rule k
    unfolding first_boundary_of first_amount_of forecast
    same = cc

    told : ok_or (then_some (leb e horizon) made) ForecastPastHorizon ≡ opening_answer rule k
    told =
        let ends = ap (λ (o : Opening). o.end) same in
        ⊎_elim
        (λ (h : horizon < e). rw (lt-leb e horizon h) (past (omega arith)))
        (λ (h : e ≤ horizon). rw (le-leb e horizon h) (simp (check_none rule k (sym passed) (omega arith)) (ap Ok same)))
        (cases_lt horizon e)

pub returns-in_err-boundary : goal.returns-in_err-boundary
returns-in_err-boundary g c =
    let a = c.args in
    let k = action a.arrival a.task.load a.task.limit a.task.period in
    let rule = g.R.ReleaseRule.amount a.rule.now in
    let passed = c.in_ok-check.ensures.answer in
    let o = c.in_err-boundary.ensures in
    let b = rw o.ok_part at (near rule k passed c.first_boundary.result c.filter.result c.first_boundary.ensures.answer (search rules)) in
    let p = err_from_is_err_and c.from_residual-in_err-boundary.result c.from_residual-in_err-boundary.ensures.1 in
    let why : c.in_err-boundary.field-0.0 ≡ ForecastPastHorizon = cc (rw o.ok_part at o.value) in
    record { answer = p.1 ∙ ap Err (p.2 ∙ why) ∙ far rule k passed b }

pub returns : goal.returns
returns g c =
    let a = c.args in
    let k = action a.arrival a.task.load a.task.limit a.task.period in
    let rule = g.R.ReleaseRule.amount a.rule.now in
    let passed = c.in_ok-check.ensures.answer in
    let b = rw c.in_ok-boundary.ensures.ok_part at (near rule k passed c.first_boundary.result c.filter.result c.first_boundary.ensures.answer (search rules)) in
    record {
      answer = c.ok_or-2.ensures.value ∙ ap (λ o. ok_or o ForecastPastHorizon) c.then_some.ensures
          ∙ told rule k passed b.1 c.counted_amount-amount.ensures.answer c.saturating_sub.ensures c.last_end-end.ensures.answer;
    }
