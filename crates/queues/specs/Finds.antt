-- What is found stands in the list.
use Rattle.std.specs.Prelude.{◌≡◌, ℕ, suc, List, [], ◌∷◌, Some, None, Option, ◌==◌, ◌≢◌, refl}
use Rattle.queues.specs.Dues.{Within}
use Rattle.queues.specs.Entries.{Proper}
use Rattle.queues.specs.Lists.{sought}
use Rattle.queues.specs.declared.entry.Entry.{Entry}
use Rattle.std.proofs.ByRecursion.{all-has}
use Rattle.std.proofs.lemmas.Bool.{cases_eq, cond-false, cond-true, eq-eqb, ne_eqb}
use Rattle.std.specs.List.{ContainsAt as Has, AllByRecursion}
use Rattle.std.proofs.Common.{inl, inr, sym, ◌∙◌, arith}

-- what is not there is not something
pub clash : {A : Type 0} {o : Option A} {t : A} → o ≡ None → o ≢ Some t
clash p q = let z : ◌≡◌ {A = ℕ} 0 1 = cc in omega arith

-- the first of a list is its server's
pub sought_hit : (e : Entry) (es : List Entry) (s : ℕ) → e.server ≡ s → sought (e ∷ es) s ≡ Some e.instant
sought_hit e es s u = cond-true (e.server == s) (Some e.instant) (sought es s) (eq-eqb e.server s u)

-- and says nothing of another server
pub sought_miss : (e : Entry) (es : List Entry) (s : ℕ) → (e.server ≢ s) → sought (e ∷ es) s ≡ sought es s
sought_miss e es s u = cond-false (e.server == s) (Some e.instant) (sought es s) (ne_eqb e.server s u)

-- what is found stands in the list
pub some_has : (xs : List Entry) (s t : ℕ) → sought xs s ≡ Some t → Has xs (record { instant = t; server = s })
some_has [] s t e = absurd (clash refl e)
some_has (x ∷ xs) s t e = elim (cases_eq x.server s) [
  | inl u ↦
      let h = sought_hit x xs s u in
      let same : x.instant ≡ t = cc in
      (0, omega arith, λ d. λ i. record { instant = same i; server = u i })
  | inr u ↦
      let r = some_has xs s t (sym (sought_miss x xs s u) ∙ e) in
      (suc r.0, omega arith, r.2)
]

-- a list of servers, none past the horizon
pub sought_within : (xs : List Entry) → AllByRecursion Proper xs → Within (sought xs)
sought_within xs b k t e = all-has Proper xs (record { instant = t; server = k }) b (some_has xs k t e)
