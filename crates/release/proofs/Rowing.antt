-- What the stretches of a row add up to, and where the row ends.
use Rattle.std.proofs.Common.{◌≡◌, ℕ, zero, suc, ◌+◌, ◌-◌, ◌<◌, ◌≤◌, List, [], ◌∷◌, ◌++◌, length, take, sum_by, sym, refl, ap, ◌∙◌, arith}
use Rattle.release.proofs.Boundaries.{first_none, forecast_is}
use Rattle.release.specs.Actions.{Action, Completes, Meaning, amount, begins, boundary, due, forecast}
use Rattle.release.specs.Rows.{EndsAt, Stretch, later_stretch, left, opening_stretch, row}
use Rattle.std.proofs.lemmas.List.{same_from_push}
use Rattle.std.proofs.lemmas.Bool.Decides.{nat_tests}
use Rattle.std.proofs.lemmas.Grind.{common_steps}

module _ (rule : Meaning) (k : Action) where
  -- the stretches up to a boundary add up to what is owed by it
  pub row_due_lem : (n : ℕ) → sum_by (λ x. x.amount) (row rule k n) ≡ due rule k n
  row_due_lem zero = grind (arith, nat_tests, first_none)
  row_due_lem (suc n) = let e = row_due_lem n in grind (arith, common_steps)

  pub row_left : (n : ℕ) → left k (row rule k n) ≡ k.load - due rule k n
  row_left n = ap (λ x. k.load - x) (row_due_lem n)

  -- the stretch after the boundary n in the row
  pub row_next : (n : ℕ) → later_stretch k n (row rule k n) ≡ record { begin = begins k (suc n); end = boundary k (suc n); amount = amount rule k (suc n) }
  row_next n = simp (row_left n)

  -- a row that completes the load ends there
  pub row_ends : 1 ≤ k.load → (n : ℕ) → Completes rule k n → EndsAt rule k (boundary k n)
  row_ends some zero c = record {
    up_to = 0;
    before = [];
    last = opening_stretch rule k;
    parts = grind (arith, nat_tests, first_none, c.0);
    end = omega arith;
    none = grind (arith, nat_tests, first_none, c.0);
    some = λ i l. absurd (omega arith);
  }
  row_ends some (suc n) c = record {
    up_to = suc n;
    before = row rule k n;
    last = later_stretch k n (row rule k n);
    parts = refl;
    end = refl;
    none = row_left (suc n) ∙ omega (arith, c.0);
    some = λ i l. grind (arith, common_steps, row_due_lem, c.1 n);
  }

  -- some of the load is left before the stretch that ends a row
  before_ends : 1 ≤ k.load → (xs : List Stretch) → ((i : ℕ) → i < length xs → 0 < left k (take (i + 1) xs)) → sum_by (λ x. x.amount) xs < k.load
  before_ends some xs h = grind (arith, common_steps, h (length xs - 1))

  -- it ends at the boundary that completes the load
  ends_with : (n : ℕ) (xs : List Stretch) (x : Stretch) → row rule k n ≡ xs ++ x ∷ [] → left k (xs ++ x ∷ []) ≡ 0 → sum_by (λ x. x.amount) xs < k.load → Completes rule k n × (x.end ≡ boundary k n)
  ends_with zero xs x p z h =
      let q = same_from_push [] xs (opening_stretch rule k) x in
      let d = row_due_lem zero in
      ((grind (arith, common_steps, nat_tests), λ i l. absurd (omega arith)), grind (arith, nat_tests, first_none rule k))
  ends_with (suc n) xs x p z h =
      let q = same_from_push (row rule k n) xs (later_stretch k n (row rule k n)) x p in
      let d = row_due_lem (suc n) in
      let b = row_due_lem n in
      ((grind (arith, common_steps), λ i l. grind (arith, common_steps)), ap (λ (s : Stretch). s.end) (sym q.1))

  -- so no other instant ends the row
  pub row_once : 1 ≤ k.load → 1 ≤ k.limit → (e : ℕ) → EndsAt rule k e → e ≡ forecast rule k
  row_once some pace e x =
      let c = ends_with x.up_to x.before x.last x.parts x.none (before_ends some x.before x.some) in
      sym x.end ∙ c.1 ∙ forecast_is rule k x.up_to pace c.0
