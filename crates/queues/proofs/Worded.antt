-- Words of servers, and servers that have no entry.
use Rattle.std.proofs.Common.{◌≡◌, ℕ, zero, suc, ◌+◌, ◌-◌, ◌≤◌, false, eqb, is_some, Some, None, Option, sym, refl, ap, ◌∙◌, inl, inr, arith}
use Rattle.bits.specs.Servers.{has}
use Rattle.bits.specs.Words.{bit}
use Rattle.bits.specs.declared.server_set.ServerSet.{ServerSet}
use Rattle.limits.specs.Ranges.{servers}
use Rattle.queues.proofs.Known.{known}
use Rattle.queues.specs.Dues.{Due, Put, Taken, Within}
use Rattle.queues.specs.Sizes.{weight}
use Rattle.queues.specs.Words.{Worded}
use Rattle.queues.specs.declared.entry.Entry.{Entry}
use Rattle.std.proofs.lemmas.Bool.{cases_eq}

-- the word with the bit of a server that got an entry
pub worded_put : (f g : Due) (h h' s t : ℕ) → 1 ≤ s → Put f g s t → Worded f h → bit h' (s - 1) ≡ 1 → ((j : ℕ) → (j ≡ s - 1 → ⊥) → bit h' j ≡ bit h j) → Worded g h'
worded_put f g h h' s t lo put w here others p = elim (cases_eq p (s - 1)) [
  | inl u ↦ let at-s : p + 1 ≡ s = omega arith in ap (bit h') u ∙ here ∙ sym (ap weight (ap g at-s ∙ put.0))
  | inr u ↦ others p u ∙ w p ∙ ap weight (sym (put.1 (p + 1) (λ e. u (omega arith))))
]

-- the word without the bit of a server whose entry was taken
pub worded_taken : (f g : Due) (h h' : ℕ) (e : Entry) → 1 ≤ e.server → Taken f g (Some e) → Worded f h → bit h' (e.server - 1) ≡ 0 → ((j : ℕ) → (j ≡ e.server - 1 → ⊥) → bit h' j ≡ bit h j) → Worded g h'
worded_taken f g h h' e lo took w here others p = elim (cases_eq p (e.server - 1)) [
  | inl u ↦ let at-s : p + 1 ≡ e.server = omega arith in ap (bit h') u ∙ here ∙ sym (ap weight (ap g at-s ∙ took.0))
  | inr u ↦ others p u ∙ w p ∙ ap weight (sym (took.1 (p + 1) (λ q. u (omega arith))))
]

-- 1 for what is there
pub weight_some : (o : Option ℕ) → eqb (weight o) 1 ≡ is_some o
weight_some None = refl
weight_some (Some t) = refl

-- only servers have entries
pub none_out : (f : Due) (s : ℕ) → Within f → (1 ≤ s → s ≤ servers → ⊥) → f s ≡ None
none_out f s h out = elim (known (f s)) [
  | inl n ↦ n
  | inr t ↦ let b = h s t.0 t.1 in absurd (out b.0 b.1)
]

-- 0 is no server
pub none_at_zero : (f : Due) (s : ℕ) → Within f → s ≤ 0 → is_some (f s) ≡ false
none_at_zero f s h z = ap is_some (none_out f s h (λ lo hi. omega arith))

-- a set holds the servers that have an entry
pub worded_has : (f : Due) (set : ServerSet) (s : ℕ) → Within f → Worded f set.word → has set s ≡ is_some (f s)
worded_has f set zero h w = sym (none_at_zero f 0 h (omega arith))
worded_has f set (suc i) h w = let at : i + 1 ≡ suc i = omega arith in ap (λ b. eqb b 1) (w i ∙ ap (λ k. weight (f k)) at) ∙ weight_some (f (suc i))
