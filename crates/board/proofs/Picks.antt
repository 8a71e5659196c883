-- The first entry of the ready queue is the slot to serve.
use Rattle.std.proofs.Common.{◌≡◌, ℕ, suc, ◌-◌, ◌<◌, ◌≤◌, true, false, ltb, length, get_or, set, Some, None, sym, refl, ap, ◌∙◌, inl, inr, arith}
use Rattle.std.proofs.lemmas.Bool.{cases_Bool, cond-true, cond-false, both_ways, cases_order, lt-ltb, le-ltb}
use Rattle.std.proofs.ByRecursion.{All-from_get_or}
use Rattle.queues.specs.declared.entry.Entry.{Entry}
use Rattle.queues.specs.Dues.{Before, First}
use Rattle.queues.specs.declared.queue.Queue.{Ghosts}
use Rattle.slots.specs.declared.slot.Slot.{Slot}
use Rattle.slots.specs.declared.slot.Slot.TheVariants.{Absent, Resting, Working}
use Rattle.slots.specs.Slots.{end_of, pick, waits}
use Rattle.slots.specs.Steps.{number, slot_of}
use Rattle.slots.specs.Marks.{owed, served_by, served_for}
use Rattle.slots.proofs.Picking.{picked_is}
use Rattle.board.specs.Fits.{wait_at, end_at}
use Rattle.board.specs.declared.table.Table.{Table}
use Rattle.bits.specs.Servers.{IsServer}
use Rattle.board.proofs.Ties.{clash, first_at, first_server}

wait_is : (x : Slot) (t : ℕ) → wait_at x ≡ Some t → (waits x ≡ true) × (end_of x ≡ t)
wait_is Absent t h = absurd (clash refl h)
wait_is (Resting c) t h = absurd (clash refl h)
wait_is (Working w) t h = elim (cases_Bool (ltb 0 w.unserved)) [
  | inl e ↦ let q = cond-true (ltb 0 w.unserved) (Some w.end) None e in let s : w.end ≡ t = cc in (e, s)
  | inr e ↦ absurd (clash (cond-false (ltb 0 w.unserved) (Some w.end) None e) h)
]

wait_to : (x : Slot) → waits x ≡ true → wait_at x ≡ Some (end_of x)
wait_to Absent h = absurd (both_ways false refl h)
wait_to (Resting c) h = absurd (both_ways false refl h)
wait_to (Working w) h = cond-true (ltb 0 w.unserved) (Some w.end) None h

wait_none : (x : Slot) → wait_at x ≡ None → waits x ≡ false
wait_none x h = elim (cases_Bool (waits x)) [ inl e ↦ absurd (clash h (wait_to x e)) | inr e ↦ e ]

module _ {X Y : Type 0} {q : Ghosts X} {c : Ghosts Y} (t : Table X Y q c) where
  pub ready_none : First (q.due t.ready) None → None ≡ pick t.slots
  ready_none p = picked_is t.slots None (All-from_get_or (λ s. waits s ≡ false) t.slots Absent (λ i l. wait_none (get_or t.slots i Absent) (sym (t.waiting (suc i)) ∙ p (suc i))))

  module _ (e : Entry) (p : First (q.due t.ready) (Some e)) where
    pub ready_server : IsServer e.server
    ready_server = first_server wait_at t.slots (q.due t.ready) t.waiting (q.within t.ready) e p

    is : (waits (slot_of t.slots e.server) ≡ true) × (end_of (slot_of t.slots e.server) ≡ e.instant)
    is = wait_is (slot_of t.slots e.server) e.instant (first_at wait_at t.slots (q.due t.ready) t.waiting (q.within t.ready) e p)

    -- it comes before each slot that waits
    before : (k : ℕ) → waits (get_or t.slots k Absent) ≡ true → Before e (end_of (get_or t.slots k Absent)) (suc k)
    before k w = p.1 (suc k) (end_of (get_or t.slots k Absent)) (t.waiting (suc k) ∙ wait_to (get_or t.slots k Absent) w)

    sooner : (k : ℕ) → k < e.server - 1 → (d : ℕ) → Before e d (suc k) → e.instant < d
    sooner k l d b = elim (cases_order e.instant d) [ inl u ↦ let z = b.1 u in omega arith | inr u ↦ omega (arith, b.0) ]

    pub ready_first : length t.slots ≡ 64 → Some (e.server - 1) ≡ pick t.slots
    ready_first n = picked_is t.slots (Some (e.server - 1)) (record {
      within = omega (arith, ready_server);
      waiting = is.0;
      least = All-from_get_or (λ s. waits s ≡ true → end_of (slot_of t.slots e.server) ≤ end_of s) t.slots Absent (λ k l w. omega (arith, is.1, (before k w).0));
      first = λ k l w. omega (arith, is.1, sooner k l (end_of (get_or t.slots k Absent)) (before k w));
    })

    -- it is served
    pub ready_number : length t.slots ≡ 64 → Some e.server ≡ number (pick t.slots)
    ready_number n = let num : Some e.server ≡ number (Some (e.server - 1)) = ap Some (omega (arith, ready_server)) in num ∙ ap number (ready_first n)

    pub ready_served : length t.slots ≡ 64 → (k : ℕ) (v : Slot) → v ≡ served_by k (slot_of t.slots e.server) → set t.slots (e.server - 1) v ≡ served_for k t.slots (pick t.slots)
    ready_served n k v h = ap (set t.slots (e.server - 1)) h ∙ ap (served_for k t.slots) (ready_first n)

-- what service leaves of the entries of a slot
pub served_end : (k : ℕ) (x : Slot) → end_at (served_by k x) ≡ end_at x
served_end k Absent = refl
served_end k (Resting c) = refl
served_end k (Working w) = refl

pub served_out : (k : ℕ) (x : Slot) → owed (served_by k x) ≡ 0 → wait_at (served_by k x) ≡ None
served_out k Absent h = refl
served_out k (Resting c) h = refl
served_out k (Working w) h = cond-false (ltb 0 (w.unserved - k)) (Some w.end) None (le-ltb 0 (w.unserved - k) (omega arith))

pub served_on : (k : ℕ) (x : Slot) → 0 < owed (served_by k x) → wait_at (served_by k x) ≡ wait_at x
served_on k Absent h = refl
served_on k (Resting c) h = refl
served_on k (Working w) h =
    cond-true (ltb 0 (w.unserved - k)) (Some w.end) None (lt-ltb 0 (w.unserved - k) h) ∙ sym (cond-true (ltb 0 w.unserved) (Some w.end) None (lt-ltb 0 w.unserved (omega arith)))
