-- How far it is to the first end of a stretch, read off the calendar.
use Rattle.std.proofs.Common.{◌≡◌, ℕ, suc, ◌+◌, ◌-◌, ◌<◌, ◌≤◌, min, List, get_or, Some, None, refl, ◌∙◌, arith}
use Rattle.std.specs.List.{AllByRecursion}
use Rattle.std.proofs.ByRecursion.{All-from_get_or}
use Rattle.queues.specs.declared.entry.Entry.{Entry}
use Rattle.queues.specs.Dues.{First}
use Rattle.queues.specs.declared.queue.Queue.{Ghosts}
use Rattle.slots.specs.declared.slot.Slot.{Slot}
use Rattle.slots.specs.declared.slot.Slot.TheVariants.{Absent, Resting, Working}
use Rattle.slots.specs.Slots.{Fine}
use Rattle.slots.specs.Steps.{slot_of}
use Rattle.slots.specs.Advances.{until_end_of}
use Rattle.slots.proofs.Places.{all_at}
use Rattle.slots.proofs.Spans.{Far, until_end_cap, until_end_far, until_end_from}
use Rattle.board.specs.Fits.{end_at}
use Rattle.board.specs.declared.table.Table.{Table}
use Rattle.board.proofs.Ties.{clash, first_at}

far_from : (f : ℕ) (x : Slot) → ((d : ℕ) → end_at x ≡ Some d → f ≤ d) → Far f x
far_from f Absent h = tt
far_from f (Resting c) h = tt
far_from f (Working w) h = h w.end refl

far_at : (f d : ℕ) (x : Slot) → end_at x ≡ Some d → Far f x → f ≤ d
far_at f d Absent e h = absurd (clash refl e)
far_at f d (Resting c) e h = absurd (clash refl e)
far_at f d (Working w) e h = let s : w.end ≡ d = cc in omega arith

fine_far : (t : ℕ) (x : Slot) → Fine t x → Far (t + 1) x
fine_far t Absent h = tt
fine_far t (Resting c) h = tt
fine_far t (Working w) h = omega arith

module _ {X Y : Type 0} {q : Ghosts X} {c : Ghosts Y} (table : Table X Y q c) (t most : ℕ) (fine : AllByRecursion (Fine t) table.slots) where
  abbrev xs : List Slot
  xs = table.slots

  far_all : (f : ℕ) → ((k d : ℕ) → c.due table.calendar k ≡ Some d → f ≤ d) → AllByRecursion (Far f) xs
  far_all f h = All-from_get_or (Far f) xs Absent (λ i _. far_from f (get_or xs i Absent) (λ d e. h (suc i) d (table.working (suc i) ∙ e)))

  -- nobody works
  pub until_none : First (c.due table.calendar) None → most ≡ until_end_of t xs most
  until_none p =
      let a = until_end_cap t xs most in
      let b = until_end_from t xs most most (omega arith) (far_all (t + most) (λ k d e. absurd (clash (p k) e))) in
      omega arith

  -- the first entry tells the first end
  module _ (e : Entry) (p : First (c.due table.calendar) (Some e)) where
    far_first : (f : ℕ) → Far f (slot_of xs e.server) → f ≤ e.instant
    far_first f = far_at f e.instant (slot_of xs e.server) (first_at end_at xs (c.due table.calendar) table.working (c.within table.calendar) e p)

    pub ahead : t < e.instant
    ahead = omega (arith, far_first (t + 1) (fine_far t (slot_of xs e.server) (all_at (Fine t) tt xs fine (e.server - 1))))

    pub until_first : min most (e.instant - t) ≡ until_end_of t xs most
    until_first =
        let l = ahead in
        let r = until_end_of t xs most in
        let a = until_end_cap t xs most in
        let b = far_first (t + r) (all_at (Far (t + r)) tt xs (until_end_far t xs most r (omega arith) fine) (e.server - 1)) in
        let d = until_end_from t xs most (min most (e.instant - t)) (omega arith) (far_all (t + min most (e.instant - t)) (λ k d q. let f = p.1 k d q in omega arith)) in
        omega arith
