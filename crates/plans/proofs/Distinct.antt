-- Lists whose numbers are distinct, and lists that pass a test: one more at the end, and one in the middle.
use Rattle.std.proofs.Common.{◌≡◌, ℕ, Bool, true, false, not, eqb, List, [], ◌∷◌, ◌++◌, sym, refl, ap, ◌∙◌}
use Rattle.plans.specs.Numbers.{distinct, has}
use Rattle.std.proofs.lemmas.Bool.{and_from, and_parts, both_ways, eq-eqb, ne_eqb, not_from_false, not-true, or_from, or_left, or_parts, or_right}
use Rattle.std.proofs.lemmas.List.Folds.{list_all-append, list_any-append}
use Rattle.std.specs.List.{list_all}

module _ {X : Type 0} (test : X → Bool) where
  pub all_push : (xs : List X) (x : X) → list_all test xs ≡ true → test x ≡ true → list_all test (xs ++ x ∷ []) ≡ true
  all_push xs x p q = list_all-append test xs (x ∷ []) ∙ and_from (list_all test xs) _ p (and_from (test x) true q refl)

  all_parts : (xs ys : List X) → list_all test (xs ++ ys) ≡ true → (list_all test xs ≡ true) × (list_all test ys ≡ true)
  all_parts xs ys p = and_parts (list_all test xs) _ (sym (list_all-append test xs ys) ∙ p)

  pub all_middle : (xs : List X) (x : X) (ys : List X) → list_all test (xs ++ x ∷ ys) ≡ true → test x ≡ true
  all_middle xs x ys p = (and_parts (test x) _ (all_parts xs (x ∷ ys) p).1).0

  pub all_front : (xs ys : List X) → list_all test (xs ++ ys) ≡ true → list_all test xs ≡ true
  all_front xs ys p = (all_parts xs ys p).0

module _ {X : Type 0} (number : X → ℕ) where
  has_not_push : (n : ℕ) (xs : List X) (x : X) → has number n xs ≡ false → (number x ≡ n → ⊥) → has number n (xs ++ x ∷ []) ≡ false
  has_not_push n xs x p q =
      list_any-append (λ y. eqb (number y) n) xs (x ∷ []) ∙ or_from (has number n xs) _ p (or_from (eqb (number x) n) false (ne_eqb (number x) n q) refl)

  has_middle : (xs : List X) (x : X) (ys : List X) → has number (number x) (xs ++ x ∷ ys) ≡ true
  has_middle xs x ys =
      list_any-append (λ y. eqb (number y) (number x)) xs (x ∷ ys) ∙ or_right (has number (number x) xs) _ (or_left (eqb (number x) (number x)) _ (eq-eqb (number x) (number x) refl))

  has_front : (n : ℕ) (xs ys : List X) → has number n (xs ++ ys) ≡ false → has number n xs ≡ false
  has_front n xs ys p = (or_parts (has number n xs) _ (sym (list_any-append (λ y. eqb (number y) n) xs ys) ∙ p)).0

  pub distinct_front : (xs ys : List X) → distinct number (xs ++ ys) ≡ true → distinct number xs ≡ true
  distinct_front [] ys p = refl
  distinct_front (y ∷ xs) ys p =
      let b = and_parts (not (has number (number y) (xs ++ ys))) _ p in
      and_from _ _ (not_from_false _ (has_front (number y) xs ys (not-true _ b.0))) (distinct_front xs ys b.1)

  -- one more at the end that has a number of its own
  pub distinct_push : (xs : List X) (x : X) → distinct number xs ≡ true → has number (number x) xs ≡ false → distinct number (xs ++ x ∷ []) ≡ true
  distinct_push [] x p q = refl
  distinct_push (y ∷ xs) x p q =
      let b = and_parts (not (has number (number y) xs)) _ p in
      let o = or_parts (eqb (number y) (number x)) _ q in
      and_from _ _
      (not_from_false _ (has_not_push (number y) xs x (not-true _ b.0) (λ e. both_ways _ o.0 (eq-eqb (number y) (number x) (sym e)))))
      (distinct_push xs x b.1 o.1)

  -- none before one of them has its number
  pub distinct_middle : (xs : List X) (x : X) (ys : List X) → distinct number (xs ++ x ∷ ys) ≡ true → has number (number x) xs ≡ false
  distinct_middle [] x ys p = refl
  distinct_middle (y ∷ xs) x ys p =
      let b = and_parts (not (has number (number y) (xs ++ x ∷ ys))) _ p in
      or_from (eqb (number y) (number x)) _
      (ne_eqb (number y) (number x) (λ e. both_ways _ (not-true _ b.0) (ap (λ n. has number n (xs ++ x ∷ ys)) e ∙ has_middle xs x ys)))
      (distinct_middle xs x ys b.1)
