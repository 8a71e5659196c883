-- What two meanings say together.
use Rattle.std.proofs.Common.{◌≡◌, ℕ, ◌<◌, ◌≤◌, Bool, true, false, cond, is_some, is_ok, Some, None, Ok, Err, Option, Result, sym, refl, ap, ◌∙◌, inl, inr, arith}
use Rattle.limits.specs.Ranges.{horizon, servers}
use Rattle.queues.proofs.Known.{known}
use Rattle.queues.proofs.Ranks.{order_false, order_true}
use Rattle.queues.specs.Dues.{Due, First, Put, Taken, Within}
use Rattle.queues.specs.Entries.{entry_order}
use Rattle.queues.specs.Finds.{clash}
use Rattle.queues.specs.Rows.{rank}
use Rattle.queues.specs.declared.entry.Entry.{Entry}
use Rattle.std.proofs.lemmas.Bool.{cases_eq, true≢false}
use Rattle.std.specs.Result.{result_err}
use Rattle.windows.specs.Both.{Apart, both, either, from, marks_lead_of}

same_entry : (a b : Entry) → a.instant ≡ b.instant → a.server ≡ b.server → a ≡ b
same_entry a b p q = λ i. record { instant = p i; server = q i }

-- a meaning has one first entry
pub first_one : (f : Due) (a b : Option Entry) → First f a → First f b → a ≡ b
first_one f None None p q = refl
first_one f None (Some e) p q = absurd (clash (p e.server) q.0)
first_one f (Some e) None p q = absurd (clash (q e.server) p.0)
first_one f (Some e) (Some d) p q =
    let one = p.1 d.server d.instant q.0 in
    let two = q.1 e.server e.instant p.0 in
    let ei : e.instant ≡ d.instant = omega arith in
    let es : e.server ≡ d.server = omega (arith, one.1 ei, two.1 (sym ei)) in
    ap Some (same_entry e d ei es)

-- where the first is not there
pub either_none : (a b : Option ℕ) → a ≡ None → either a b ≡ b
either_none None b e = refl
either_none (Some t) b e = absurd (clash e refl)

-- where it is
pub either_some : (a b : Option ℕ) (t : ℕ) → a ≡ Some t → either a b ≡ Some t
either_some None b t e = absurd (clash refl e)
either_some (Some u) b t e = e

module _ (f g : Due) where
  -- nothing in either
  pub none_none : (k : ℕ) → f k ≡ None → g k ≡ None → both f g k ≡ None
  none_none k p q = either_none (f k) (g k) p ∙ q

  -- the second is there where the first is not
  pub beside : Apart f g → (k t : ℕ) → g k ≡ Some t → f k ≡ None
  beside a k t e = elim (known (f k)) [
    | inl n ↦ n
    | inr s ↦ absurd (clash (a k s.0 s.1) e)
  ]

  pub second : Apart f g → (k t : ℕ) → g k ≡ Some t → both f g k ≡ Some t
  second a k t e = either_none (f k) (g k) (beside a k t e) ∙ e

  -- an entry more in the first
  pub put_first : (f' : Due) (s t : ℕ) → Put f f' s t → Put (both f g) (both f' g) s t
  put_first f' s t p =
      (either_some (f' s) (g s) t p.0, λ k u. ap (λ o. either o (g k)) (p.1 k u))

  pub put_first_apart : (f' : Due) (s t : ℕ) → Apart f g → g s ≡ None → Put f f' s t → Apart f' g
  put_first_apart f' s t a n p k v e = elim (cases_eq k s) [
    | inl u ↦ ap g u ∙ n
    | inr u ↦ a k v (sym (p.1 k u) ∙ e)
  ]

  -- an entry more in the second
  pub put_second : (g' : Due) (s t : ℕ) → f s ≡ None → Put g g' s t → Put (both f g) (both f g') s t
  put_second g' s t n p =
      (either_none (f s) (g' s) n ∙ p.0, λ k u. ap (either (f k)) (p.1 k u))

  pub put_second_apart : (g' : Due) (s t : ℕ) → Apart f g → f s ≡ None → Put g g' s t → Apart f g'
  put_second_apart g' s t a n p k v e = elim (cases_eq k s) [
    | inl u ↦ absurd (clash (ap f u ∙ n) e)
    | inr u ↦ p.1 k u ∙ a k v e
  ]

  -- the first entry of the two
  pub first_second : (r : Option Entry) → First f None → First g r → First (both f g) r
  first_second None n p = λ k. none_none k (n k) (p k)
  first_second (Some d) n p = (
    either_none (f d.server) (g d.server) (n d.server) ∙ p.0,
    λ k t e. p.1 k t (sym (either_none (f k) (g k) (n k)) ∙ e),
  )

  pub first_first : (e : Entry) → First f (Some e) → First g None → First (both f g) (Some e)
  first_first e p n = (
    either_some (f e.server) (g e.server) e.instant p.0,
    λ k t h. elim (from (f k) (g k) t h) [
      | inl q ↦ p.1 k t q
      | inr q ↦ absurd (clash (n k) q.1)
    ],
  )

  module _ (e d : Entry) (u : Within f) (v : Within g) (a : Apart f g) (p : First f (Some e)) (q : First g (Some d)) where
    pub sooner_second : rank d < rank e → First (both f g) (Some d)
    sooner_second l =
        let b = u e.server e.instant p.0 in
        let b' = v d.server d.instant q.0 in (
          second a d.server d.instant q.0,
          λ k t h. elim (from (f k) (g k) t h) [
            | inl w ↦
                let x = p.1 k t w in
                (omega arith, λ z. let same : e.instant ≡ t = omega arith in omega (arith, x.1 same))
            | inr w ↦ q.1 k t w.1
          ],
        )

    pub sooner_first : rank e ≤ rank d → First (both f g) (Some e)
    sooner_first l =
        let b = u e.server e.instant p.0 in
        let b' = v d.server d.instant q.0 in (
          either_some (f e.server) (g e.server) e.instant p.0,
          λ k t h. elim (from (f k) (g k) t h) [
            | inl w ↦ p.1 k t w
            | inr w ↦
                let x = q.1 k t w.1 in
                (omega arith, λ z. let same : d.instant ≡ t = omega arith in omega (arith, x.1 same))
          ],
        )

    small_first : e.server < 256
    small_first = let b = u e.server e.instant p.0 in omega arith

    small_second : d.server < 256
    small_second = let b = v d.server d.instant q.0 in omega arith

    -- the one that comes first
    pub sooner : (r : Bool) → r ≡ entry_order e d → First (both f g) (cond r (Some e) (Some d))
    sooner true l = sooner_first (order_true e d small_first (sym l))
    sooner false l = sooner_second (order_false e d small_second (sym l))

  -- the first of the two, by which of them leads
  pub leads : (a b : Option Entry) (r : Bool) → r ≡ marks_lead_of a b → Within f → Within g → Apart f g → First f a → First g b → First (both f g) (cond r a b)
  leads None b true s u v x p q = absurd (true≢false s)
  leads None b false s u v x p q = first_second b p q
  leads (Some e) None true s u v x p q = first_first e p q
  leads (Some e) None false s u v x p q = absurd (true≢false (sym s))
  leads (Some e) (Some d) r s u v x p q = sooner e d u v x p q r s

  -- an entry less
  pub taken_second : (g' : Due) (r : Option Entry) → First g r → Apart f g → Taken g g' r → Taken (both f g) (both f g') r
  taken_second g' None p a t = λ k. ap (either (f k)) (t k)
  taken_second g' (Some d) p a t =
      (none_to (beside a d.server d.instant p.0) t.0, λ k u. ap (either (f k)) (t.1 k u))
    where
      none_to : f d.server ≡ None → g' d.server ≡ None → both f g' d.server ≡ None
      none_to x y = either_none (f d.server) (g' d.server) x ∙ y

  pub taken_second_apart : (g' : Due) (r : Option Entry) → Apart f g → Taken g g' r → Apart f g'
  taken_second_apart g' None a t k v e = t k ∙ a k v e
  taken_second_apart g' (Some d) a t k v e = elim (cases_eq k d.server) [
    | inl u ↦ ap g' u ∙ t.0
    | inr u ↦ t.1 k u ∙ a k v e
  ]

  pub taken_first : (f' : Due) (r : Option Entry) → First f r → Apart f g → Taken f f' r → Taken (both f g) (both f' g) r
  taken_first f' None p a t = λ k. ap (λ o. either o (g k)) (t k)
  taken_first f' (Some e) p a t = (
    either_none (f' e.server) (g e.server) t.0 ∙ a e.server e.instant p.0,
    λ k u. ap (λ o. either o (g k)) (t.1 k u),
  )

  pub taken_first_apart : (f' : Due) (r : Option Entry) → Apart f g → Taken f f' r → Apart f' g
  taken_first_apart f' None a t k v h = a k v (sym (t k) ∙ h)
  taken_first_apart f' (Some e) a t k v h = elim (cases_eq k e.server) [
    | inl u ↦ absurd (clash (ap f' u ∙ t.0) h)
    | inr u ↦ a k v (sym (t.1 k u) ∙ h)
  ]

-- only servers have entries still
pub within_put : (f g : Due) (s t : ℕ) → 1 ≤ s → s ≤ servers → t ≤ horizon → Within f → Put f g s t → Within g
within_put f g s t lo hi early h p k u e = elim (cases_eq k s) [
  | inl same ↦
      let at-t : Some t ≡ Some u = sym p.0 ∙ ap g (sym same) ∙ e in
      let when : t ≡ u = cc in
      (omega arith, omega arith, omega arith)
  | inr other ↦ h k u (sym (p.1 k other) ∙ e)
]

pub within_taken : (f g : Due) (r : Option Entry) → Within f → Taken f g r → Within g
within_taken f g None h t k u e = h k u (sym (t k) ∙ e)
within_taken f g (Some x) h t k u e = elim (cases_eq k x.server) [
  | inl same ↦ absurd (clash (ap g same ∙ t.0) e)
  | inr other ↦ h k u (sym (t.1 k other) ∙ e)
]

-- nothing in either, the other way
pub neither : (a b : Option ℕ) → either a b ≡ None → (a ≡ None) × (b ≡ None)
neither None b e = (refl, e)
neither (Some t) b e = absurd (clash e refl)

-- whether one is there
pub some_first : (a b : Option ℕ) → is_some a ≡ true → is_some (either a b) ≡ true
some_first None b h = absurd (true≢false (sym h))
some_first (Some t) b h = refl

pub some_second : (a b : Option ℕ) → is_some a ≡ false → is_some (either a b) ≡ is_some b
some_second None b h = refl
some_second (Some t) b h = absurd (true≢false h)

-- what is not refused is accepted
pub ok_none : {R : Type 0} (r : Result (Unit {0}) R) → result_err r ≡ None → is_ok r ≡ true
ok_none (Ok u) e = refl
ok_none (Err why) e = absurd (grind arith)
