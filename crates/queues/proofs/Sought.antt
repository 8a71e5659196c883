-- The entries of a list, in whatever order they stand.
use Rattle.std.proofs.Common.{◌≡◌, ℕ, zero, suc, ◌<◌, ◌≤◌, eqb, List, [], ◌∷◌, length, get_or, Some, None, sum_by, sym, refl, ◌∙◌, subst, inl, inr, arith}
use Rattle.bits.proofs.Bits.{bit_of_zero}
use Rattle.queues.proofs.Counts.{size_more, size_none, size_room}
use Rattle.queues.proofs.Known.{known}
use Rattle.queues.specs.Dues.{Empty, Put, Taken}
use Rattle.queues.specs.Entries.{Proper, nobody}
use Rattle.queues.specs.Finds.{clash, some_has, sought_hit, sought_miss, sought_within}
use Rattle.queues.specs.Lists.{Distinct, one, sought}
use Rattle.queues.specs.Sizes.{size}
use Rattle.queues.specs.Words.{Worded}
use Rattle.queues.specs.declared.entry.Entry.{Entry}
use Rattle.std.proofs.lemmas.List.Sorted.{IsPermutation-sym, sum_by-IsPermutation}
use Rattle.std.proofs.ByRecursion.{has_shuffled, all_shuffled}
use Rattle.std.proofs.lemmas.List.Sums.{sum_by-cons, get_or-le-sum_by}
use Rattle.std.proofs.lemmas.Bool.{eq-eqb, ne_eqb, cases_eq, cond-true, cond-false}
use Rattle.std.specs.List.Sorted.{IsPermutation}
use Rattle.std.specs.List.{ContainsAt as Has, AllByRecursion}

one_hit : (s : ℕ) (e : Entry) → e.server ≡ s → one s e ≡ 1
one_hit s e u = cond-true (eqb e.server s) 1 0 (eq-eqb e.server s u)

one_miss : (s : ℕ) (e : Entry) → (e.server ≡ s → ⊥) → one s e ≡ 0
one_miss s e u = cond-false (eqb e.server s) 1 0 (ne_eqb e.server s u)

-- a server that is not found is counted nowhere
none_count : (xs : List Entry) (s : ℕ) → sought xs s ≡ None → sum_by (one s) xs ≡ 0
none_count [] s e = refl
none_count (x ∷ xs) s e = elim (cases_eq x.server s) [
  | inl u ↦ absurd (clash e (sought_hit x xs s u))
  | inr u ↦ omega (arith, sum_by-cons (one s) x xs, one_miss s x u, none_count xs s (sym (sought_miss x xs s u) ∙ e))
]

count_none : (xs : List Entry) (s : ℕ) → sum_by (one s) xs ≡ 0 → sought xs s ≡ None
count_none [] s e = refl
count_none (x ∷ xs) s e = elim (cases_eq x.server s) [
  | inl u ↦ absurd (omega (arith, sum_by-cons (one s) x xs, one_hit s x u))
  | inr u ↦ sought_miss x xs s u ∙ count_none xs s (omega (arith, sum_by-cons (one s) x xs))
]

fewer : (x : Entry) (xs : List Entry) → Distinct (x ∷ xs) → Distinct xs
fewer x xs d s = omega (arith, d s, sum_by-cons (one s) x xs)

found_at : (xs : List Entry) (i : ℕ) → Distinct xs → i < length xs → sought xs (get_or xs i nobody).server ≡ Some (get_or xs i nobody).instant
found_at [] i d l = absurd (omega arith)
found_at (x ∷ xs) zero d l = sought_hit x xs x.server refl
found_at (x ∷ xs) (suc i) d l =
    let y = get_or xs i nobody in
    let in' : i < length xs = omega arith in
    sought_miss x xs y.server (λ u. omega (arith, d y.server, sum_by-cons (one y.server) x xs, one_hit y.server x u, get_or-le-sum_by (one y.server) xs i nobody in', one_hit y.server y refl))
    ∙ found_at xs i (fewer x xs d) in'

-- and what stands in the list is found
pub has_some : (xs : List Entry) (e : Entry) → Distinct xs → Has xs e → sought xs e.server ≡ Some e.instant
has_some xs e d h = subst (λ (y : Entry). sought xs y.server ≡ Some y.instant) (h.2 nobody) (found_at xs h.0 d h.1)

-- a server has one entry at most in every order of the list
pub distinct_shuffled : (xs ys : List Entry) → Distinct xs → IsPermutation xs ys → Distinct ys
distinct_shuffled xs ys d h s = omega (arith, d s, sum_by-IsPermutation (one s) xs ys h)

-- the order does not matter
pub sought_shuffled : (xs ys : List Entry) (s : ℕ) → Distinct xs → IsPermutation xs ys → sought ys s ≡ sought xs s
sought_shuffled xs ys s d h = elim (known (sought xs s)) [
  | inl n ↦ count_none ys s (sum_by-IsPermutation (one s) xs ys h ∙ none_count xs s n) ∙ sym n
  | inr t ↦ has_some ys (record { instant = t.0; server = s }) (distinct_shuffled xs ys d h) (has_shuffled xs ys _ h (some_has xs s t.0 t.1)) ∙ sym t.1
]

-- as many are found as there are
pub size_sought : (xs : List Entry) → Distinct xs → AllByRecursion Proper xs → size 65 (sought xs) ≡ length xs
size_sought [] d b = size_none 65 (sought []) (λ k. refl)
size_sought (x ∷ xs) d b =
    let s = x.server in
    let lt : s < 65 = omega (arith, b.0.1) in
    let gone : sought xs s ≡ None = count_none xs s (omega (arith, d s, sum_by-cons (one s) x xs, one_hit s x refl)) in
    let more = size_more 65 (sought xs) (sought (x ∷ xs)) s x.instant lt gone (sought_hit x xs s refl) (λ k u. sought_miss x xs k (λ e. u (sym e))) in
    let rest = size_sought xs (fewer x xs d) b.1 in
    omega arith

-- a server without an entry leaves room
pub room_left : (xs : List Entry) (s : ℕ) → Distinct xs → AllByRecursion Proper xs → 1 ≤ s → s ≤ 64 → sought xs s ≡ None → length xs < 64
room_left xs s d b lo hi e =
    let none0 : sought xs 0 ≡ None = elim (known (sought xs 0)) [ inl n ↦ n | inr t ↦ let w = sought_within xs b 0 t.0 t.1 in absurd (omega arith) ] in
    let two = size_room 65 (sought xs) s 0 (omega arith) (omega arith) (λ q. omega arith) e none0 in
    omega (arith, size_sought xs d b)

-- one more
module _ (xs ys : List Entry) (x : Entry) (d : Distinct xs) (gone : sought xs x.server ≡ None) (h : IsPermutation (x ∷ xs) ys) where
  more_distinct : Distinct (x ∷ xs)
  more_distinct s = elim (cases_eq x.server s) [
    | inl u ↦ omega (arith, sum_by-cons (one s) x xs, one_hit s x u, none_count xs s (subst (λ k. sought xs k ≡ None) u gone))
    | inr u ↦ omega (arith, sum_by-cons (one s) x xs, one_miss s x u, d s)
  ]

  pub put_distinct : Distinct ys
  put_distinct = distinct_shuffled (x ∷ xs) ys more_distinct h

  pub put_put : Put (sought xs) (sought ys) x.server x.instant
  put_put = (
    sought_shuffled (x ∷ xs) ys x.server more_distinct h ∙ sought_hit x xs x.server refl,
    λ k u. sought_shuffled (x ∷ xs) ys k more_distinct h ∙ sought_miss x xs k (λ e. u (sym e)),
  )

  pub put_bounded : Proper x → AllByRecursion Proper xs → AllByRecursion Proper ys
  put_bounded b all = all_shuffled Proper (x ∷ xs) ys h (b, all)

-- one less
module _ (xs ys : List Entry) (x : Entry) (d : Distinct xs) (h : IsPermutation xs (x ∷ ys)) where
  less_distinct : Distinct (x ∷ ys)
  less_distinct = distinct_shuffled xs (x ∷ ys) d h

  pub take_distinct : Distinct ys
  take_distinct = fewer x ys less_distinct

  pub take_bounded : AllByRecursion Proper xs → Proper x × AllByRecursion Proper ys
  take_bounded b = all_shuffled Proper xs (x ∷ ys) h b

  pub take_taken : Taken (sought xs) (sought ys) (Some x)
  take_taken = (
    count_none ys x.server (omega (arith, less_distinct x.server, sum_by-cons (one x.server) x ys, one_hit x.server x refl)),
    λ k u. sym (sought_miss x ys k (λ e. u (sym e))) ∙ sought_shuffled xs (x ∷ ys) k d h,
  )

  pub take_has : Has xs x
  take_has = has_shuffled (x ∷ ys) xs x (IsPermutation-sym xs (x ∷ ys) h) (0, omega arith, λ e. refl)

pub empty_list : (xs : List Entry) → xs ≡ [] → Distinct xs × AllByRecursion Proper xs × Worded (sought xs) 0 × Empty (sought xs)
empty_list xs e = subst (λ (l : List Entry). Distinct l × AllByRecursion Proper l × Worded (sought l) 0 × Empty (sought l)) (sym e)
    ((λ s. omega arith), tt, (λ p. bit_of_zero p), λ k. refl)
