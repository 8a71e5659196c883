-- What closing does to a slot.
use Rattle.std.proofs.Common.{◌≡◌, ℕ, suc, ◌+◌, ◌-◌, ◌*◌, ◌<◌, ◌≤◌, min, true, false, cond, not, eqb, ltb, ◌⊎◌, Some, None, sym, refl, ap, ◌∙◌, subst, inl, inr, mul-suc, mul-le-mul_left, arith}
use Rattle.std.proofs.lemmas.Bool.{cases_eq, cond-true, cond-false, and_from, and_left, and_right, not_from_true, not_from_false, eq-eqb, ne_eqb, lt-ltb, le-ltb}
use Rattle.limits.specs.Ranges.{horizon}
use Rattle.release.specs.Actions.{ceil}
use Rattle.release.proofs.Ceils.{ceil_from, ceil_least}
use Rattle.slots.specs.declared.slot.Work.{Work}
use Rattle.slots.specs.declared.slot.Slot.{Slot}
use Rattle.slots.specs.declared.slot.Slot.TheVariants.{Absent, Resting, Working}
use Rattle.slots.specs.declared.slot.Closed.TheVariants.{Rests, Next}
use Rattle.slots.specs.Slots.{closed, renewed, late}
use Rattle.slots.specs.Marks.{closing}
use Rattle.slots.specs.Steps.{ends, goes_on}
use Rattle.board.specs.Fits.{Fit, Lasting, end_at, last_end, wait_at}
use Rattle.board.proofs.Ties.{clash, some_same}

-- one more
mul_next : (p k : ℕ) → 1 ≤ k → p * k ≡ p * (k - 1) + p
mul_next p k h = let e : k ≡ suc (k - 1) = omega arith in ap (λ z. p * z) e ∙ mul-suc p (k - 1)

-- a period for each limit, whole or begun: one limit less, one period less
pub limit_less : (p n d : ℕ) → 1 ≤ d → 1 ≤ n → p + p * ceil (n - d) d ≤ p * ceil n d
limit_less p n d h l =
    let k = ceil n d in
    let up : n ≤ d * k = ceil_from n d h in
    let one : 1 ≤ k = elim (cases_eq k 0) [ inl z ↦ absurd (omega (arith, ap (λ y. d * y) z)) | inr z ↦ omega arith ] in
    let less : ceil (n - d) d ≤ k - 1 = ceil_least (n - d) d (k - 1) h (omega (arith, mul_next d k one)) in
    omega (arith, mul-le-mul_left p less, mul_next p k one)

pub fit_later : (t e : ℕ) (x : Slot) → Fit t x → end_at x ≡ Some e → t ≤ e
fit_later t e Absent f h = absurd (clash refl h)
fit_later t e (Resting c) f h = absurd (clash refl h)
fit_later t e (Working w) f h = let s : w.end ≡ e = some_same h in let l = f.later in omega arith

pub fit_lasting : (t : ℕ) (x : Slot) → Fit t x → Lasting x
fit_lasting t Absent f = (omega arith, omega arith)
fit_lasting t (Resting c) f = (omega arith, omega arith)
fit_lasting t (Working w) f = f.lasts

-- the next stretch moves no end past the last
renewed_ends : (w : Work) → 1 ≤ w.limit → w.unserved ≡ 0 → (w.left ≡ 0 → ⊥) → last_end (Working (renewed w)) ≤ last_end (Working w)
renewed_ends w s u n =
    let before : ceil (w.left - w.unserved) w.limit ≡ ceil w.left w.limit = ap (λ y. ceil y w.limit) (omega arith) in
    let after : ceil (w.left - min w.limit w.left) w.limit ≡ ceil (w.left - w.limit) w.limit = ap (λ y. ceil y w.limit) (omega arith) in
    rw (before, after) (omega (arith, limit_less w.period w.left w.limit s (omega arith)))

-- nor does it end past it
renewed_in : (w : Work) → 1 ≤ w.limit → w.unserved ≡ 0 → (w.left ≡ 0 → ⊥) → w.end + w.period ≤ last_end (Working w)
renewed_in w s u n = omega (arith, renewed_ends w s u n)

module _ (t : ℕ) (w : Work) (at : w.end ≡ t) where
  rest_is : w.left ≡ 0 → closed t (Working w) ≡ Resting w.cap
  rest_is z = cond-true (eqb w.end t) _ _ (eq-eqb w.end t at) ∙ cond-true (eqb w.left 0) _ _ (eq-eqb w.left 0 z)

  next_is : (w.left ≡ 0 → ⊥) → closed t (Working w) ≡ Working (renewed w)
  next_is z = cond-true (eqb w.end t) _ _ (eq-eqb w.end t at) ∙ cond-false (eqb w.left 0) _ _ (ne_eqb w.left 0 z)

  closing_is : w.unserved ≡ 0 → closing t (Working w) ≡ cond (eqb w.left 0) Rests (Next (w.end + w.period))
  closing_is u = cond-true (eqb w.end t) _ _ (eq-eqb w.end t at) ∙ cond-false (ltb 0 w.unserved) _ _ (le-ltb 0 w.unserved (omega arith))

-- whether its stretch ends at t
ends_there : (t : ℕ) (x : Slot) → (end_at x ≡ Some t) ⊎ (end_at x ≡ Some t → ⊥)
ends_there t Absent = inr (clash refl)
ends_there t (Resting c) = inr (clash refl)
ends_there t (Working w) = elim (cases_eq w.end t) [ inl e ↦ inl (ap Some e) | inr e ↦ inr (λ h. e (some_same h)) ]

-- the slot stays as it is
pub off_closed : (t : ℕ) (x : Slot) → (end_at x ≡ Some t → ⊥) → closed t x ≡ x
off_closed t Absent h = refl
off_closed t (Resting c) h = refl
off_closed t (Working w) h = cond-false (eqb w.end t) _ _ (ne_eqb w.end t (λ e. h (ap Some e)))

pub off_ends : (t : ℕ) (x : Slot) → (end_at x ≡ Some t → ⊥) → ends t x ≡ false
off_ends t Absent h = refl
off_ends t (Resting c) h = refl
off_ends t (Working w) h = and_left (eqb w.end t) _ (ne_eqb w.end t (λ e. h (ap Some e)))

pub off_goes_on : (t : ℕ) (x : Slot) → (end_at x ≡ Some t → ⊥) → goes_on t x ≡ false
off_goes_on t Absent h = refl
off_goes_on t (Resting c) h = refl
off_goes_on t (Working w) h = and_left (eqb w.end t) _ (ne_eqb w.end t (λ e. h (ap Some e)))

pub fit_late : (t : ℕ) (x : Slot) → Fit t x → late t x ≡ false
fit_late t Absent f = refl
fit_late t (Resting c) f = refl
fit_late t (Working w) f = elim (cases_eq w.end t) [
  | inl e ↦ and_right (eqb w.end t) (ltb 0 w.unserved) (le-ltb 0 w.unserved (let u = f.done e in omega arith))
  | inr e ↦ and_left (eqb w.end t) (ltb 0 w.unserved) (ne_eqb w.end t e)
]

-- the server rests
pub record Rested (t : ℕ) (x : Slot) : Type 0 where
  pub is : closing t x ≡ Rests
  pub calendar : end_at (closed t x) ≡ None
  pub ready : wait_at (closed t x) ≡ None
  pub before : wait_at x ≡ None
  pub ends : ends t x ≡ true
  pub stays : goes_on t x ≡ false
  pub fit : Fit t (closed t x)

-- its next stretch begins
pub record Renewed (t : ℕ) (x : Slot) : Type 0 where
  pub end : ℕ
  pub is : closing t x ≡ Next end
  pub calendar : end_at (closed t x) ≡ Some end
  pub ready : wait_at (closed t x) ≡ Some end
  pub before : wait_at x ≡ None
  pub begins : goes_on t x ≡ true
  pub stays : ends t x ≡ false
  pub fits : end ≤ horizon
  pub later : t < end
  pub fit : Fit t (closed t x)

pub closes : (t : ℕ) (x : Slot) → Fit t x → end_at x ≡ Some t → Rested t x ⊎ Renewed t x
closes t Absent f h = absurd (clash refl h)
closes t (Resting c) f h = absurd (clash refl h)
closes t (Working w) f h =
    let at : w.end ≡ t = some_same h in
    let u = f.done at in
    let none : wait_at (Working w) ≡ None = cond-false (ltb 0 w.unserved) (Some w.end) None (le-ltb 0 w.unserved (omega arith)) in
    elim (cases_eq w.left 0) [
      | inl z ↦
          let c = rest_is t w at z in
          inl (record {
            is = closing_is t w at u ∙ cond-true (eqb w.left 0) _ _ (eq-eqb w.left 0 z);
            calendar = ap end_at c;
            ready = ap wait_at c;
            before = none;
            ends = and_from (eqb w.end t) (eqb w.left 0) (eq-eqb w.end t at) (eq-eqb w.left 0 z);
            stays = and_right (eqb w.end t) (not (eqb w.left 0)) (not_from_true (eqb w.left 0) (eq-eqb w.left 0 z));
            fit = subst (Fit t) (sym c) tt;
          })
      | inr z ↦
          let c = next_is t w at z in
          let l = f.lasts in
          let o = f.some in
          let p = f.slow in
          let r = renewed_ends w o u z in
          let b = renewed_in w o u z in
          inr (record {
            end = w.end + w.period;
            is = closing_is t w at u ∙ cond-false (eqb w.left 0) _ _ (ne_eqb w.left 0 z);
            calendar = ap end_at c;
            ready = ap wait_at c ∙ cond-true (ltb 0 (min w.limit w.left)) (Some (w.end + w.period)) None (lt-ltb 0 (min w.limit w.left) (omega arith));
            before = none;
            begins = and_from (eqb w.end t) (not (eqb w.left 0)) (eq-eqb w.end t at) (not_from_false (eqb w.left 0) (ne_eqb w.left 0 z));
            stays = and_right (eqb w.end t) (eqb w.left 0) (ne_eqb w.left 0 z);
            fits = omega arith;
            later = omega arith;
            fit = subst (Fit t) (sym c) (record { later = omega arith; done = λ e. absurd (omega arith); some = o; slow = p; lasts = (l.0, omega arith) });
          })
    ]

module _ (t : ℕ) (x : Slot) (f : Fit t x) where
  module _ (h : end_at x ≡ Some t) where
    pub rested : closing t x ≡ Rests → Rested t x
    rested q = elim (closes t x f h) [
      | inl r ↦ r
      | inr r ↦ absurd (let p = r.is in let z : ◌≡◌ {A = ℕ} 0 1 = cc in omega arith)
    ]

    pub renews : (n : ℕ) → closing t x ≡ Next n → (r : Renewed t x) × (r.end ≡ n)
    renews n q = elim (closes t x f h) [
      | inl r ↦ absurd (let p = r.is in let z : ◌≡◌ {A = ℕ} 0 1 = cc in omega arith)
      | inr r ↦ (r, (let p = r.is in cc))
    ]

    -- where no next stretch begins, the server rests
    pub rested_else : ((n : ℕ) → closing t x ≡ Next n → ⊥) → Rested t x
    rested_else n = elim (closes t x f h) [ inl r ↦ r | inr r ↦ absurd (n r.end r.is) ]

  pub fit_closed : Fit t (closed t x)
  fit_closed = elim (ends_there t x) [
    | inl h ↦ elim (closes t x f h) [ inl r ↦ r.fit | inr r ↦ r.fit ]
    | inr h ↦ subst (Fit t) (sym (off_closed t x h)) f
  ]

  -- a closed slot does not end at the instant
  pub past : end_at (closed t x) ≡ Some t → ⊥
  past e = elim (ends_there t x) [
    | inl h ↦ elim (closes t x f h) [
      | inl r ↦ clash r.calendar e
      | inr r ↦ let c = r.calendar in let l = r.later in let s : r.end ≡ t = some_same (sym c ∙ e) in omega arith
    ]
    | inr h ↦ h (ap end_at (sym (off_closed t x h)) ∙ e)
  ]
