-- One turn of the closing loop, and its end.
use Rattle.std.proofs.Common.{◌≡◌, ℕ, suc, ◌-◌, ◌<◌, ◌≤◌, ◌⊎◌, List, length, get_or, set, Some, None, sym, ap, ◌∙◌, subst, inl, inr, arith}
use Rattle.std.proofs.lemmas.List.{length-set}
use Rattle.bits.specs.Servers.{IsServer}
use Rattle.bits.specs.Words.{Set}
use Rattle.queues.specs.Dues.{First}
use Rattle.queues.specs.declared.entry.Entry.{Entry}
use Rattle.queues.specs.declared.queue.Queue.{Ghosts}
use Rattle.slots.specs.Marks.{closing}
use Rattle.slots.specs.Slots.{closed, total}
use Rattle.slots.specs.Steps.{slot_of}
use Rattle.slots.specs.declared.slot.Closed.{Closed}
use Rattle.slots.specs.declared.slot.Closed.TheVariants.{Late, Next, Nothing, Rests}
use Rattle.slots.specs.declared.slot.Slot.{Slot}
use Rattle.slots.specs.declared.slot.Slot.TheVariants.{Absent}
use Rattle.board.specs.declared.table.Table.{Table}
use Rattle.board.specs.Fits.{AllFit, end_at}
use Rattle.board.proofs.Closes.{closes, fit_later}
use Rattle.board.proofs.Loops.{Midway, ending, less, midway_fit, midway_next, midway_rest}
use Rattle.board.proofs.Ties.{clash, first_at, first_server}

-- no stretch ends at t where the calendar is empty, or its first entry later
module _ {X Y : Type 0} {q : Ghosts X} {c : Ghosts Y} (table : Table X Y q c) (t : ℕ) where
  pub over_none : First (c.due table.calendar) None → (i : ℕ) → end_at (get_or table.slots i Absent) ≡ Some t → ⊥
  over_none p i h = clash (p (suc i)) (table.working (suc i) ∙ h)

  pub over_first : (d : Entry) → First (c.due table.calendar) (Some d) → t < d.instant → (i : ℕ) → end_at (get_or table.slots i Absent) ≡ Some t → ⊥
  over_first d p l i h = let b = p.1 (suc i) t (table.working (suc i) ∙ h) in omega arith

rests_on : {v : Closed} → v ≡ Rests → (v ≡ Nothing) ⊎ (v ≡ Late) → ⊥
rests_on h w = elim w [ inl n ↦ cc | inr l ↦ cc ]

goes_on : {v : Closed} {k : ℕ} → v ≡ Next k → (v ≡ Nothing) ⊎ (v ≡ Late) → ⊥
goes_on h w = elim w [ inl n ↦ cc | inr l ↦ cc ]

-- what a turn makes of the slots ys on the way from xs: the server s is put into the one set or the other, which gets the number e' or r'
pub record Turned (t : ℕ) (xs ys : List Slot) (r e s : ℕ) (zs : List Slot) (v : Closed) : Type 0 where
  pub sized : length zs ≡ 64
  pub less : total (ending t) zs < total (ending t) ys
  pub told : (v ≡ Nothing) ⊎ (v ≡ Late) → ⊥
  pub rests : v ≡ Rests → (e' : ℕ) → (IsServer s → Set e (s - 1) e') → Midway t xs zs r e'
  pub next : (k : ℕ) → v ≡ Next k → (r' : ℕ) → (IsServer s → Set r (s - 1) r') → Midway t xs zs r' e

-- the table is on its way from the slots xs, while the stretches that end at t are closed
module _ {X Y : Type 0} {q : Ghosts X} {c : Ghosts Y} (table : Table X Y q c) (t : ℕ) (xs : List Slot) (r e : ℕ) (fit : AllFit t xs) (m : Midway t xs table.slots r e) where
  abbrev ys : List Slot
  ys = table.slots

  -- the calendar's first entry is due
  module _ (d : Entry) (p : First (c.due table.calendar) (Some d)) (le : d.instant ≤ t) where
    who : IsServer d.server
    who = first_server end_at ys (c.due table.calendar) table.working (c.within table.calendar) d p

    at : end_at (slot_of ys d.server) ≡ Some d.instant
    at = first_at end_at ys (c.due table.calendar) table.working (c.within table.calendar) d p

    now : d.instant ≡ t
    now = omega (arith, fit_later t d.instant (slot_of ys d.server) (midway_fit t xs ys r e fit m (d.server - 1)) at)

    here : end_at (slot_of ys d.server) ≡ Some t
    here = at ∙ ap Some now

    -- its stretch is closed, which gives the slots zs and the answer v
    module _ (n : length ys ≡ 64) (zs : List Slot) (is : zs ≡ set ys (d.server - 1) (closed d.instant (slot_of ys d.server))) (v : Closed) (told : v ≡ closing d.instant (slot_of ys d.server)) where
      made : set ys (d.server - 1) (closed t (slot_of ys d.server)) ≡ zs
      made = sym (is ∙ ap (λ (k : ℕ). set ys (d.server - 1) (closed k (slot_of ys d.server))) now)

      gave : closing t (slot_of ys d.server) ≡ v
      gave = sym (told ∙ ap (λ (k : ℕ). closing k (slot_of ys d.server)) now)

      pub turned : Turned t xs ys r e d.server zs v
      turned = record {
        sized = simp length-set at (ap length is) ∙ n;
        less = subst (λ (ws : List Slot). total (ending t) ws < total (ending t) ys) made (less t xs ys r e fit m (d.server - 1) (omega (arith, who)) here);
        told = elim (closes t (slot_of ys d.server) (midway_fit t xs ys r e fit m (d.server - 1)) here) [ inl x ↦ rests_on (sym gave ∙ x.is) | inr x ↦ goes_on (sym gave ∙ x.is) ];
        rests = λ h e' s. subst (λ (ws : List Slot). Midway t xs ws r e') made (midway_rest t xs ys r e fit m (d.server - 1) (omega (arith, who)) here (gave ∙ h) e' (s who) (omega (arith, who)));
        next = λ k h r' s. subst (λ (ws : List Slot). Midway t xs ws r' e) made (midway_next t xs ys r e fit m (d.server - 1) (omega (arith, who)) here k (gave ∙ h) r' (s who) (omega (arith, who)));
      }
