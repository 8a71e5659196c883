-- An action that starts fits in, and ends by the horizon.
use Rattle.std.proofs.Common.{◌≡◌, ℕ, ◌+◌, ◌-◌, ◌*◌, ◌<◌, ◌≤◌, min, ltb, sym, refl, ap, subst, inl, inr, mul_comm, arith}
use Rattle.limits.specs.Ranges.{horizon, unit}
use Rattle.release.proofs.Boundaries.{first_fits, first_from, first_none}
use Rattle.release.proofs.Values.{Ranged}
use Rattle.release.specs.Actions.{Action, Meaning, ceil, first_amount_of, first_boundary_of, forecast}
use Rattle.release.specs.Rules.{WithinShare}
use Rattle.slots.specs.Slots.{FitsIn}
use Rattle.slots.specs.Steps.{opened}
use Rattle.slots.specs.declared.slot.Slot.TheVariants.{Working}
use Rattle.slots.specs.declared.slot.Work.{Work}
use Rattle.std.proofs.lemmas.Bool.{cases_lt, cond-false, cond-true, le-ltb, lt-ltb}
use Rattle.board.proofs.Closes.{limit_less}
use Rattle.board.specs.Fits.{Lasting}

pub record Opened (t : ℕ) (w : Work) : Type 0 where
  pub fits : FitsIn t w
  pub lasts : Lasting (Working w)

-- the forecast as a sum
forecast_sum : (rule : Meaning) (k : Action) → forecast rule k ≡ first_boundary_of k + ceil (k.load - first_amount_of rule k) k.limit * k.period
unfolding forecast
forecast_sum rule k = refl

module _ (rule : Meaning) (law : WithinShare rule) (k : Action) (c : ℕ) (r : Ranged k) (rate : k.limit * unit ≤ c * k.period) (ends : forecast rule k ≤ horizon) where
  abbrev b : ℕ
  b = first_boundary_of k

  abbrev a : ℕ
  a = first_amount_of rule k

  abbrev n : ℕ
  n = ceil (k.load - a) k.limit

  abbrev first : ℕ → ℕ → Work
  first e u = record { cap = c; end = e; unserved = min k.load u; left = k.load; limit = k.limit; period = k.period }

  forecast_in : b + k.period * n ≤ horizon
  forecast_in = omega (arith, forecast_sum rule k, mul_comm n k.period)

  -- the arrival lies before the boundary
  before : k.arrival < b → Opened k.arrival (first b a)
  before l =
      let low = r.limit_low in
      let f = first_fits rule law k c unit r.period_low rate in
      let same : ceil (k.load - min k.load a) k.limit ≡ n = ap (λ (y : ℕ). ceil y k.limit) (omega arith) in
      record {
        fits = record { later = l; within = omega arith; some = low; short = r.limit_high; rate = rate; first = omega arith };
        lasts = (r.period_high, rw same forecast_in);
      }

  -- it lies on the boundary
  upon : b ≡ k.arrival → Opened k.arrival (first (b + k.period) k.limit)
  upon e =
      let low = r.limit_low in
      let loaded = r.load_low in
      let p = r.period_low in
      let none : a ≡ 0 = first_none rule k (omega arith) in
      let whole : n ≡ ceil k.load k.limit = ap (λ (y : ℕ). ceil y k.limit) (omega arith) in
      let same : ceil (k.load - min k.load k.limit) k.limit ≡ ceil (k.load - k.limit) k.limit = ap (λ (y : ℕ). ceil y k.limit) (omega arith) in
      let fits : b + k.period * ceil k.load k.limit ≤ horizon = subst (λ (y : ℕ). b + k.period * y ≤ horizon) whole forecast_in in
      let d : b + k.period - k.arrival ≡ k.period = omega arith in
      let w : c * (b + k.period - k.arrival) ≡ c * k.period = ap (λ (v : ℕ). c * v) d in
      record {
        fits = record { later = omega arith; within = omega arith; some = low; short = r.limit_high; rate = rate; first = omega arith };
        lasts = (r.period_high, rw same (omega (arith, limit_less k.period k.load k.limit low loaded)));
      }

  pub opening : Opened k.arrival (opened rule c k)
  opening = elim (cases_lt k.arrival b) [
    | inl l ↦
        let e = lt-ltb k.arrival b l in
        let same : first b a ≡ opened rule c k = λ i. first (sym (cond-true (ltb k.arrival b) b (b + k.period) e) i) (sym (cond-true (ltb k.arrival b) a k.limit e) i) in
        subst (Opened k.arrival) same (before l)
    | inr l ↦
        let e = le-ltb k.arrival b l in
        let from = first_from k r.period_low in
        let same : first (b + k.period) k.limit ≡ opened rule c k = λ i. first (sym (cond-false (ltb k.arrival b) b (b + k.period) e) i) (sym (cond-false (ltb k.arrival b) a k.limit e) i) in
        subst (Opened k.arrival) same (upon (omega arith))
  ]
