-- How the slots keep step with a queue.
use Rattle.std.proofs.Common.{◌≡◌, ℕ, zero, suc, ◌-◌, ◌<◌, ◌≤◌, List, length, get_or, set, replicate, Some, None, Option, sym, refl, ap, ◌∙◌, inl, inr, arith, get_or-set_other, get_or-set_same}
use Rattle.std.proofs.lemmas.Bool.{cases_eq}
use Rattle.bits.specs.Servers.{IsServer}
use Rattle.queues.specs.declared.entry.Entry.{Entry}
use Rattle.queues.specs.Dues.{Due, Empty, First, Put, Taken, Within}
use Rattle.slots.specs.declared.slot.Slot.{Slot}
use Rattle.slots.specs.declared.slot.Slot.TheVariants.{Absent}
use Rattle.slots.specs.Steps.{slot_of}
use Rattle.board.specs.Fits.{noted}

pub clash : {o : Option ℕ} {t : ℕ} → o ≡ None → o ≡ Some t → ⊥
clash {o} {t} p q = let z : ◌≡◌ {A = ℕ} 0 1 = cc in omega arith

pub some_same : {a b : ℕ} → Some a ≡ Some b → a ≡ b
some_same {a} {b} h = cc

pub absent_all : (n k : ℕ) → get_or (replicate n Absent) k Absent ≡ Absent
absent_all zero k = refl
absent_all (suc n) zero = refl
absent_all (suc n) (suc k) = absent_all n k

-- the queue says what f says of the slots
abbrev pub Tells : (Slot → Option ℕ) → List Slot → Due → Type 0
Tells f xs due = (k : ℕ) → due k ≡ noted f xs k

module _ (f : Slot → Option ℕ) where
  pub tells_none : f Absent ≡ None → (n : ℕ) (due : Due) → Empty due → Tells f (replicate n Absent) due
  tells_none h n due p zero = p zero
  tells_none h n due p (suc k) = p (suc k) ∙ sym (ap f (absent_all n k) ∙ h)

  module _ (xs : List Slot) where
    noted_at : (s : ℕ) → 1 ≤ s → noted f xs s ≡ f (slot_of xs s)
    noted_at zero lo = absurd (omega arith)
    noted_at (suc k) lo = let e : k ≡ suc k - 1 = omega arith in ap (λ z. f (get_or xs z Absent)) e

    noted_same : (s : ℕ) (v : Slot) → length xs ≡ 64 → IsServer s → noted f (set xs (s - 1) v) s ≡ f v
    noted_same zero v n is = absurd (omega arith)
    noted_same (suc k) v n is =
        let e : suc k - 1 ≡ k = omega arith in
        let lt : k < length xs = omega arith in
        ap f (ap (λ z. get_or (set xs z v) k Absent) e ∙ get_or-set_same xs k v Absent lt)

    noted_other : (s : ℕ) (v : Slot) (k : ℕ) → 1 ≤ s → (k ≡ s → ⊥) → noted f (set xs (s - 1) v) k ≡ noted f xs k
    noted_other s v zero lo u = refl
    noted_other s v (suc j) lo u = ap f (get_or-set_other xs (s - 1) j v Absent (λ e. u (omega arith)))

    -- the slot of one server changes, and the queue does
    module _ (due due' : Due) (tells : Tells f xs due) (n : length xs ≡ 64) (s : ℕ) (is : IsServer s) (v : Slot) where
      changed : f v ≡ due' s → ((k : ℕ) → (k ≡ s → ⊥) → due' k ≡ due k) → Tells f (set xs (s - 1) v) due'
      changed here others k = elim (cases_eq k s) [
        | inl u ↦ rw u (sym here ∙ sym (noted_same s v n is))
        | inr u ↦ others k u ∙ tells k ∙ sym (noted_other s v k is.0 u)
      ]

      pub tells_put : (t : ℕ) → f v ≡ Some t → Put due due' s t → Tells f (set xs (s - 1) v) due'
      tells_put t here p = changed (here ∙ sym p.0) p.1

      pub tells_moved : (i t : ℕ) (between : Due) → f v ≡ Some t → Taken due between (Some (record { server = s; instant = i })) → Put between due' s t → Tells f (set xs (s - 1) v) due'
      tells_moved i t between here a p = changed (here ∙ sym p.0) (λ k u. p.1 k u ∙ a.1 k u)

      pub tells_taken : (i : ℕ) → f v ≡ None → Taken due due' (Some (record { server = s; instant = i })) → Tells f (set xs (s - 1) v) due'
      tells_taken i here p = changed (here ∙ sym p.0) p.1

    -- a change that f does not see
    pub tells_kept : (due : Due) → Tells f xs due → length xs ≡ 64 → (s : ℕ) → IsServer s → (v : Slot) → f v ≡ f (slot_of xs s) → Tells f (set xs (s - 1) v) due
    tells_kept due tells n s is v same = changed due due tells n s is v (same ∙ sym (noted_at s is.0) ∙ sym (tells s)) (λ k u. refl)

    -- the first entry is of a server, at the instant that f says
    module _ (due : Due) (tells : Tells f xs due) (within : Within due) (e : Entry) (first : First due (Some e)) where
      pub first_server : IsServer e.server
      first_server = let b = within e.server e.instant first.0 in (b.0, b.1)

      pub first_at : f (slot_of xs e.server) ≡ Some e.instant
      first_at = sym (noted_at e.server first_server.0) ∙ sym (tells e.server) ∙ first.0
