-- Where the boundaries of an action lie, and which of them is its end.
use Rattle.std.proofs.Common.{◌≡◌, ℕ, ◌+◌, ◌-◌, ◌*◌, ◌/◌, ◌<◌, ◌≤◌, ltb, sym, ap, ◌∙◌, ⊎_elim, mul-le-mul_right, mul_assoc, mul_comm, mul-le-mul_left, le_of_mul-le-mul_right, arith}
use Rattle.release.proofs.Ceils.{ceil_below, ceil_from, ceil_least}
use Rattle.release.specs.Actions.{Action, Completes, Meaning, boundary, ceil, first_amount_of, first_boundary_of, forecast}
use Rattle.release.specs.Rules.{WithinShare}
use Rattle.std.proofs.lemmas.Bool.Decides.{nat_tests}
use Rattle.std.proofs.lemmas.Bool.{cases_lt, cond_both}
use native.Mathlib.Nat.{le_of_mul-le-mul_left, mul-div-le}

module _ (k : Action) (h : 1 ≤ k.period) where
  pub first_from : k.arrival ≤ first_boundary_of k
  unfolding first_boundary_of
  first_from = ceil_from k.arrival k.period h

  pub first_below : first_boundary_of k < k.arrival + k.period
  unfolding first_boundary_of
  first_below = ceil_below k.arrival k.period h

pub first_none : (rule : Meaning) (k : Action) → first_boundary_of k ≤ k.arrival → first_amount_of rule k ≡ 0
unfolding first_amount_of
first_none rule k h = grind (arith, nat_tests)

pub first_some : (rule : Meaning) (k : Action) → k.arrival < first_boundary_of k → first_amount_of rule k ≡ rule k.limit k.period k.arrival (first_boundary_of k)
unfolding first_amount_of
first_some rule k h = grind (arith, nat_tests)

-- the first amount keeps the law
pub first_law : (rule : Meaning) → WithinShare rule → (k : Action) → first_amount_of rule k * k.period ≤ k.limit * (first_boundary_of k - k.arrival)
unfolding first_amount_of
first_law rule law k =
    let a = rule k.limit k.period k.arrival (first_boundary_of k) in
    cond_both (ltb k.arrival (first_boundary_of k)) a 0 (λ n. n * k.period ≤ k.limit * (first_boundary_of k - k.arrival))
    (λ e. ⊎_elim
    (λ (s : 0 < a). law k.limit k.period k.arrival (first_boundary_of k) s)
    (λ (s : a ≤ 0). let z : a ≡ 0 = omega arith in rw z (omega arith))
    (cases_lt 0 a))
    (λ e. omega arith)

-- boundaries lie in order
pub boundary_order : (k : Action) (i j : ℕ) → i < j → boundary k i + k.period ≤ boundary k j
boundary_order k i j h = grind arith

pub boundary_le : (k : Action) (i j : ℕ) → i ≤ j → boundary k i ≤ boundary k j
boundary_le k i j h = grind arith

-- a boundary past the one before j, and not past j, is j
pub boundary_is : (k : Action) (i j : ℕ) → boundary k i ≤ boundary k j → boundary k j < boundary k i + k.period → i ≡ j
boundary_is k i j h l = grind (arith, boundary_order)

-- only one boundary completes an action
pub completes_once : (rule : Meaning) (k : Action) (i j : ℕ) → Completes rule k i → Completes rule k j → i ≡ j
completes_once rule k i j h l = grind (arith, h.1 j, l.1 i)

-- how many periods after its first boundary an action ends
abbrev pub turns : Meaning → Action → ℕ
turns rule k = ceil (k.load - first_amount_of rule k) k.limit

pub turns_complete : (rule : Meaning) (k : Action) → 1 ≤ k.limit → Completes rule k (turns rule k)
turns_complete rule k h = (grind (arith, ceil_from), λ i l. grind (arith, ceil_least))

-- the forecast is the boundary that completes the action
pub forecast_is : (rule : Meaning) (k : Action) (j : ℕ) → 1 ≤ k.limit → Completes rule k j → boundary k j ≡ forecast rule k
unfolding forecast
forecast_is rule k j h c = ap (boundary k) (completes_once rule k j (turns rule k) c (turns_complete rule k h))

pub forecast_from : (rule : Meaning) (k : Action) → first_boundary_of k ≤ forecast rule k
unfolding forecast
forecast_from rule k = omega arith

-- an action with a load takes time
pub forecast_after : (rule : Meaning) (k : Action) → 1 ≤ k.load → 1 ≤ k.limit → 1 ≤ k.period → k.arrival < forecast rule k
unfolding forecast
forecast_after rule k some h p =
    let f = first_from k p in
    let c = ceil_from (k.load - first_amount_of rule k) k.limit h in
    grind (arith, first_none rule k)

-- the whole limits in the load, and the periods that they take
lower : (d m r p w x : ℕ) → 1 ≤ d → d * (m + r) ≤ x + d * m → x * p ≤ d * w → r * p ≤ w
lower d m r p w x h l law =
    let a : d * r ≤ x = omega arith in
    let b : d * (r * p) ≤ d * w = omega (arith, mul-le-mul_right p a, mul_assoc d r p) in
    le_of_mul-le-mul_left b h

low : (d m q p w x : ℕ) → 1 ≤ d → d * q ≤ x + d * m → x * p ≤ d * w → p * q ≤ w + m * p
low d m q p w x h l law =
    ⊎_elim
    (λ (o : m < q).
    let r = q - m in
    let e : m + r ≡ q = omega arith in
    let z = lower d m r p w x h (rw e l) law in
    omega (arith, ap (λ n. p * n) e, mul_comm p m, mul_comm p r))
    (λ (o : q ≤ m). omega (arith, mul-le-mul_left p o, mul_comm p m))
    (cases_lt m q)

-- how long an action takes
module _ (rule : Meaning) (k : Action) (h : 1 ≤ k.limit) (p : 1 ≤ k.period) (j : ℕ) (c : Completes rule k j) where
  pub no_less : WithinShare rule → k.arrival + k.period * (k.load / k.limit) ≤ boundary k j
  no_less law =
      let f = first_from k p in
      let d = mul-div-le k.load k.limit in
      let r = low k.limit j (k.load / k.limit) k.period (first_boundary_of k - k.arrival) (first_amount_of rule k) h (omega (arith, c.0)) (first_law rule law k) in
      omega arith

  pub no_more : boundary k j ≤ k.arrival + (k.period - 1) + k.period * ceil k.load k.limit
  no_more =
      let n = ceil k.load k.limit in
      let g = first_below k p in
      let enough = ceil_from k.load k.limit h in
      let early = c.1 n in
      let below : j ≤ n = grind arith in
      grind arith

-- an amount within its limit's part of the time fits in a cap that the limit keeps to
pub fit : (a p l t c u : ℕ) → 1 ≤ p → a * p ≤ l * t → l * u ≤ c * p → u * a ≤ c * t
fit a p l t c u h law rate =
    let x : (u * a) * p ≤ u * (l * t) = omega (arith, mul-le-mul_left u law, mul_assoc u a p) in
    let y : u * (l * t) ≤ (c * p) * t = omega (arith, mul-le-mul_right t rate, ap (λ n. n * t) (mul_comm l u), mul_assoc u l t) in
    let z : (c * p) * t ≡ (c * t) * p = mul_assoc c p t ∙ ap (λ n. c * n) (mul_comm p t) ∙ sym (mul_assoc c t p) in
    le_of_mul-le-mul_right (omega arith) h

pub first_fits : (rule : Meaning) → WithinShare rule → (k : Action) (cap' u : ℕ) → 1 ≤ k.period → k.limit * u ≤ cap' * k.period → u * first_amount_of rule k ≤ cap' * (first_boundary_of k - k.arrival)
first_fits rule law k cap' u h rate = fit (first_amount_of rule k) k.period k.limit (first_boundary_of k - k.arrival) cap' u h (first_law rule law k) rate
