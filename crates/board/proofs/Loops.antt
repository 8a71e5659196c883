-- The stretches that end at an instant are closed one by one.
use Rattle.std.proofs.Common.{◌≡◌, ℕ, zero, suc, ◌+◌, ◌*◌, ◌/◌, ◌<◌, ◌≤◌, Bool, true, false, eqb, ◌⊎◌, ◌≢◌, List, [], ◌∷◌, map, length, get_or, set, Some, sym, refl, ap, ◌∙◌, subst, inl, inr, arith, get_or-set_other, get_or-set_same}
use Rattle.std.proofs.lemmas.Bool.{cases_eq, eq-eqb, ne_eqb}
use Rattle.std.proofs.ByRecursion.{All-from_get_or}
use Rattle.std.proofs.lemmas.List.{ext_get_or, length-map}
use Rattle.bits.specs.Words.{Set, bit}
use Rattle.bits.proofs.Bits.{bit_of_zero}
use Rattle.slots.specs.declared.slot.Slot.{Slot}
use Rattle.slots.specs.declared.slot.Slot.TheVariants.{Absent, Resting, Working}
use Rattle.slots.specs.declared.sets.Sets.{Sets}
use Rattle.slots.specs.declared.slot.Closed.TheVariants.{Rests, Next}
use Rattle.slots.specs.Marks.{closing}
use Rattle.slots.specs.Slots.{closed, late, total}
use Rattle.slots.specs.Steps.{ends, goes_on, mask, sets}
use Rattle.slots.proofs.Places.{get_d_map, mask_none}
use Rattle.slots.proofs.Totals.{total_set}
use Rattle.board.specs.Fits.{AllFit, Fit, end_at}
use Rattle.board.proofs.Flags.{flag, same_bits}
use Rattle.board.proofs.Ties.{clash}
use Rattle.board.proofs.Closes.{fit_closed, fit_late, off_closed, off_ends, off_goes_on, past, rested, renews}

flag_le : (b : Bool) → flag b ≤ 1
flag_le true = omega arith
flag_le false = omega arith

-- the bits of a mask
mask_at : (f : Slot → Bool) → f Absent ≡ false → (xs : List Slot) (j : ℕ) → bit (mask f xs) j ≡ flag (f (get_or xs j Absent))
mask_at f none [] j = bit_of_zero j ∙ sym (ap flag none)
mask_at f none (x ∷ xs) zero = omega (arith, flag_le (f x))
mask_at f none (x ∷ xs) (suc j) =
    let e : (flag (f x) + 2 * mask f xs) / 2 ≡ mask f xs = omega (arith, flag_le (f x)) in
    ap (λ (z : ℕ). bit z j) e ∙ mask_at f none xs j

-- One slot on the way: x as it was, y as it is, and the bits of its server in the sets so far. It is closed, ..
pub record Shut (t : ℕ) (x y : Slot) (r e : ℕ) : Type 0 where
  pub slot : y ≡ closed t x
  pub begun : r ≡ flag (goes_on t x)
  pub done : e ≡ flag (ends t x)

-- .. or not yet
pub record Still (x y : Slot) (r e : ℕ) : Type 0 where
  pub slot : y ≡ x
  pub begun : r ≡ 0
  pub done : e ≡ 0

abbrev pub Midway : ℕ → List Slot → List Slot → ℕ → ℕ → Type 0
Midway t xs ys r e = (j : ℕ) → Shut t (get_or xs j Absent) (get_or ys j Absent) (bit r j) (bit e j) ⊎ Still (get_or xs j Absent) (get_or ys j Absent) (bit r j) (bit e j)

pub midway_start : (t : ℕ) (xs : List Slot) → Midway t xs xs 0 0
midway_start t xs j = inr (record { slot = refl; begun = bit_of_zero j; done = bit_of_zero j })

-- 1 where the stretch ends at t
abbrev pub ending : ℕ → Slot → ℕ
ending t Absent = 0
ending t (Resting c) = 0
ending t (Working w) = flag (eqb w.end t)

ending_on : (t : ℕ) (x : Slot) → end_at x ≡ Some t → ending t x ≡ 1
ending_on t Absent h = absurd (clash refl h)
ending_on t (Resting c) h = absurd (clash refl h)
ending_on t (Working w) h = let s : w.end ≡ t = cc in ap flag (eq-eqb w.end t s)

ending_off : (t : ℕ) (x : Slot) → (end_at x ≡ Some t → ⊥) → ending t x ≡ 0
ending_off t Absent h = refl
ending_off t (Resting c) h = refl
ending_off t (Working w) h = ap flag (ne_eqb w.end t (λ e. h (ap Some e)))

module _ (t : ℕ) (xs ys : List Slot) (r e : ℕ) (fit : AllFit t xs) (m : Midway t xs ys r e) where
  pub midway_fit : AllFit t ys
  midway_fit j = elim (m j) [ inl s ↦ subst (Fit t) (sym s.slot) (fit_closed t (get_or xs j Absent) (fit j)) | inr s ↦ subst (Fit t) (sym s.slot) (fit j) ]

  -- the slot i, whose stretch ends at t, is closed
  module _ (i : ℕ) (l : i < length ys) (here : end_at (get_or ys i Absent) ≡ Some t) where
    abbrev y : Slot
    y = get_or ys i Absent

    still : Still (get_or xs i Absent) y (bit r i) (bit e i)
    still = elim (m i) [ inl s ↦ absurd (past t (get_or xs i Absent) (fit i) (sym (ap end_at s.slot) ∙ here)) | inr s ↦ s ]

    pub less : total (ending t) (set ys i (closed t y)) < total (ending t) ys
    less = omega (arith, total_set (ending t) ys i (closed t y) Absent l, ending_on t y here, ending_off t (closed t y) (past t y (midway_fit i)))

    turn : (r' e' : ℕ) → bit r' i ≡ flag (goes_on t y) → bit e' i ≡ flag (ends t y) → ((j : ℕ) → j ≢ i → bit r' j ≡ bit r j) → ((j : ℕ) → j ≢ i → bit e' j ≡ bit e j) → Midway t xs (set ys i (closed t y)) r' e'
    turn r' e' p q others others' j = elim (cases_eq j i) [
      | inl u ↦ inl (rw (u, get_or-set_same ys i (closed t y) Absent l) (record { slot = ap (closed t) still.slot; begun = p ∙ ap (λ (z : Slot). flag (goes_on t z)) still.slot; done = q ∙ ap (λ (z : Slot). flag (ends t z)) still.slot }))
      | inr u ↦ rw (get_or-set_other ys i j (closed t y) Absent u, others j u, others' j u) (m j)
    ]

    pub midway_rest : closing t y ≡ Rests → (e' : ℕ) → Set e i e' → i < 64 → Midway t xs (set ys i (closed t y)) r e'
    midway_rest is e' s b =
        let k = rested t y (midway_fit i) here is in
        turn r e' (still.begun ∙ sym (ap flag k.stays)) (s.here b ∙ sym (ap flag k.ends)) (λ j u. refl) s.others

    pub midway_next : (n : ℕ) → closing t y ≡ Next n → (r' : ℕ) → Set r i r' → i < 64 → Midway t xs (set ys i (closed t y)) r' e
    midway_next n is r' s b =
        let k = (renews t y (midway_fit i) here n is).0 in
        turn r' e (s.here b ∙ sym (ap flag k.begins)) (still.done ∙ sym (ap flag k.stays)) s.others (λ j u. refl)

  -- none is left
  module _ (off : (i : ℕ) → end_at (get_or ys i Absent) ≡ Some t → ⊥) where
    all_shut : (j : ℕ) → Shut t (get_or xs j Absent) (get_or ys j Absent) (bit r j) (bit e j)
    all_shut j = elim (m j) [
      | inl s ↦ s
      | inr s ↦
          let o : end_at (get_or xs j Absent) ≡ Some t → ⊥ = λ h. off j (ap end_at s.slot ∙ h) in
          record {
            slot = s.slot ∙ sym (off_closed t (get_or xs j Absent) o);
            begun = s.begun ∙ sym (ap flag (off_goes_on t (get_or xs j Absent) o));
            done = s.done ∙ sym (ap flag (off_ends t (get_or xs j Absent) o));
          }
    ]

    pub midway_slots : length ys ≡ length xs → ys ≡ map (closed t) xs
    midway_slots n = ext_get_or Absent ys (map (closed t) xs) (omega (arith, length-map xs (closed t))) (λ j _. (all_shut j).slot ∙ sym (get_d_map (closed t) xs j refl))

    midway_begun : r ≡ mask (goes_on t) xs
    midway_begun = same_bits r (mask (goes_on t) xs) (λ j. (all_shut j).begun ∙ sym (mask_at (goes_on t) refl xs j))

    midway_done : e ≡ mask (ends t) xs
    midway_done = same_bits e (mask (ends t) xs) (λ j. (all_shut j).done ∙ sym (mask_at (ends t) refl xs j))

    midway_late : 0 ≡ mask (late t) xs
    midway_late = sym (mask_none (late t) xs (All-from_get_or (λ x. late t x ≡ false) xs Absent (λ i _. fit_late t (get_or xs i Absent) (fit i))))

    pub midway_sets : ◌≡◌ {A = Sets} (record { released = record { word = r }; ended = record { word = e }; late = record { word = 0 } }) (sets t xs)
    midway_sets = λ i. record { released = record { word = midway_begun i }; ended = record { word = midway_done i }; late = record { word = midway_late i } }
