-- What a summary says of its sets, and how it stays true.
use Rattle.std.proofs.Common.{◌≡◌, ℕ, zero, suc, ◌<◌, min, ◌≢◌, List, length, set, sym, ap, ◌∙◌, inl, inr, arith, get_or-set_other, get_or-set_same}
use Rattle.bits.proofs.Bits.{bit_of_zero}
use Rattle.bits.specs.Words.{bit}
use Rattle.bits.specs.declared.server_set.ServerSet.{ServerSet}
use Rattle.std.proofs.lemmas.Bool.{cases_eq}
use Rattle.windows.specs.Marked.{Summed, word}

-- a number with a set bit is not 0
pub pos_from_bit : (x i : ℕ) → bit x i ≡ 1 → 0 < x
pos_from_bit zero i e = let z = bit_of_zero i in absurd (omega arith)
pos_from_bit (suc x) i e = omega arith

-- a set changes
pub word_here : (sets : List ServerSet) (r : ℕ) (w : ServerSet) → r < length sets → word (set sets r w) r ≡ w.word
word_here sets r w l = ap (λ (x : ServerSet). x.word) (get_or-set_same sets r w (record { word = 0 }) l)

pub word_else : (sets : List ServerSet) (r i : ℕ) (w : ServerSet) → i ≢ r → word (set sets r w) i ≡ word sets i
word_else sets r i w u = ap (λ (x : ServerSet). x.word) (get_or-set_other sets r i w (record { word = 0 }) u)

-- and its bit of the summary with it
pub summed_set : (sets : List ServerSet) (s s' r : ℕ) (w : ServerSet) → Summed sets s → r < length sets → bit s' r ≡ min 1 w.word → ((j : ℕ) → j ≢ r → bit s' j ≡ bit s j) → Summed (set sets r w) s'
summed_set sets s s' r w sum inside here others i h = elim (cases_eq i r) [
  | inl e ↦ rw e (here ∙ ap (min 1) (sym (word_here sets r w inside)))
  | inr ne ↦ others i ne ∙ sum i h ∙ ap (min 1) (sym (word_else sets r i w ne))
]

-- a set without its bit in the summary has no server
pub empty_word : (sets : List ServerSet) (s i m : ℕ) → Summed sets s → i < 64 → bit s i ≡ 0 → bit (word sets i) m ≡ 0
empty_word sets s i m sum h none =
    let e : word sets i ≡ 0 = omega (arith, sum i h) in ap (λ (x : ℕ). bit x m) e ∙ bit_of_zero m
