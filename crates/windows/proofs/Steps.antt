-- What marking an entry, and taking its mark away, make of the parts.
use Rattle.std.proofs.Common.{◌≡◌, ℕ, ◌+◌, ◌-◌, ◌<◌, ◌≤◌, length, min, set, ◌≢◌, Some, None, sym, ap, ◌∙◌, subst, arith}
use Rattle.std.specs.Prelude.{slice_index_or}
use Rattle.bits.specs.Servers.{FirstOf, IsServer}
use Rattle.bits.specs.Words.{Cleared, Lowest, Set, bit}
use Rattle.bits.specs.declared.server_set.ServerSet.{ServerSet}
use Rattle.limits.specs.Ranges.{horizon}
use Rattle.queues.proofs.Worded.{worded_put, worded_taken}
use Rattle.queues.specs.Dues.{First, Put, Taken}
use Rattle.queues.specs.Entries.{Proper}
use Rattle.queues.specs.Sizes.{weight}
use Rattle.queues.specs.declared.entry.Entry.{Entry}
use Rattle.windows.proofs.Marking.{bare_marked, bare_placed, clear_placed, clear_single, clear_spot, empty_sets, marked_at, marked_first, marked_rest, set_placed, set_single, set_spot, spot_clear}
use Rattle.windows.proofs.Summaries.{empty_word, pos_from_bit, summed_set}
use Rattle.windows.specs.Marked.{Fine, Parts, at, marked, marked_within, near, spot_from, word}

-- the offset of an entry, and the bit of its server
abbrev pub off : Parts → Entry → ℕ
off m e = e.instant - m.base

abbrev pub place : Entry → ℕ
place e = e.server - 1

-- the parts with another set at the entry's instant, another summary, and other servers held
abbrev pub changed : Parts → Entry → ServerSet → ℕ → ServerSet → Parts
changed m e w summary held = record { base = m.base; sets = set m.sets (off m e) w; summary = summary; held = held }

-- where an entry that is marked stands
pub record Standing (m : Parts) (e : Entry) : Type 0 where
  pub server : IsServer e.server
  pub from : m.base ≤ e.instant
  pub short : off m e < 64
  pub stands : at m.sets (off m e) (place e) ≡ 1

module _ (o m : Parts) (is : m ≡ o) (fine : Fine m.base m.sets m.summary m.held) where
  -- without marks the base may be any
  module _ (empty : m.summary ≡ 0) where
    none : (i p : ℕ) → i < 64 → at m.sets i p ≡ 0
    none = empty_sets m.sets m.summary fine.summed empty

    pub bare_near : (base k : ℕ) → marked m.sets base k ≡ None
    bare_near = bare_marked m.sets none

    pub near_none : (k : ℕ) → near o k ≡ None
    near_none = subst (λ (z : Parts). (k : ℕ) → near z k ≡ None) is (bare_near m.base)

    pub moved_fine : (base : ℕ) → base ≤ horizon → Fine base m.sets m.summary m.held
    moved_fine base l = record {
      early = l;
      summed = fine.summed;
      single = fine.single;
      placed = bare_placed m.sets none base;
      gathered = λ p. fine.gathered p ∙ ap weight (bare_near m.base (p + 1) ∙ sym (bare_near base (p + 1)));
    }

  -- the lowest server of the first set that has one
  pub near_first : (i s : ℕ) → i < 64 → Lowest m.summary i → FirstOf (slice_index_or m.sets i (record { word = 0 })) (Some s) → First (near o) (Some (record { instant = m.base + i; server = s }))
  near_first i s l low first =
      subst (λ (z : Parts). First (near z) (Some (record { instant = m.base + i; server = s }))) is
      (marked_first m.sets m.base i s fine.single first.0.0 l first.1.set
      (λ j n lt. empty_word m.sets m.summary j n fine.summed (omega arith) (low.below j lt)) first.1.below)

  pub standing : (e : Entry) → near o e.server ≡ Some e.instant → Standing m e
  standing e was =
      let here : near m e.server ≡ Some e.instant = subst (λ (z : Parts). near z e.server ≡ Some e.instant) (sym is) was in
      let b = marked_within m.sets m.base fine.placed e.server e.instant here in
      let r = spot_from m.sets m.base 64 (place e) e.instant (sym (marked_at m.sets m.base e.server b.0) ∙ here) in
      let same : r.0 ≡ off m e = omega arith in
      record { server = (b.0, b.1); from = omega arith; short = omega arith; stands = ap (λ i. at m.sets i (place e)) (sym same) ∙ r.2 }

  module _ (e : Entry) (w : ServerSet) (summary : ℕ) (held : ServerSet) (sized : length m.sets ≡ 64) where
    -- an entry is marked
    module _ (proper : Proper e) (from : o.base ≤ e.instant) (to : e.instant < o.base + 64) (absent : near o e.server ≡ None) (put : Set (word m.sets (off m e)) (place e) w.word) (sum : Set m.summary (off m e) summary) (more : Set m.held.word (place e) held.word) where
      base : m.base ≡ o.base
      base = ap (λ (z : Parts). z.base) is

      small : place e < 64
      small = omega arith

      short : off m e < 64
      short = omega (arith, base)

      inside : off m e < length m.sets
      inside = omega (arith, base)

      fits : m.base + off m e ≤ horizon
      fits = omega (arith, base)

      free : (i : ℕ) → i < 64 → at m.sets i (place e) ≡ 0
      free = spot_clear m.sets m.base 64 (place e) (sym (marked_at m.sets m.base e.server proper.0) ∙ subst (λ (z : Parts). near z e.server ≡ None) (sym is) absent)

      put_near : Put (near m) (near (changed m e w summary held)) e.server e.instant
      put_near =
          let when : m.base + off m e ≡ e.instant = omega (arith, base) in (
            marked_at (set m.sets (off m e) w) m.base e.server proper.0
                ∙ set_spot m.sets m.base (off m e) (place e) w inside put.others short small fits fine.single fine.placed (put.here small) free ∙ ap Some when,
            λ k u. marked_rest m.sets m.base (off m e) (place e) w inside put.others k (λ q. u (omega arith)),
          )

      pub marking_put : Put (near o) (near (changed m e w summary held)) e.server e.instant
      marking_put = subst (λ (z : Parts). Put (near z) (near (changed m e w summary held)) e.server e.instant) is put_near

      pub marking_fine : Fine m.base (set m.sets (off m e) w) summary held
      marking_fine =
          let pos = pos_from_bit w.word (place e) (put.here small) in
          record {
            early = fine.early;
            summed = summed_set m.sets m.summary summary (off m e) w fine.summed inside (omega (arith, sum.here short)) sum.others;
            single = set_single m.sets m.base (off m e) (place e) w inside put.others short small fits fine.single fine.placed (put.here small) free;
            placed = set_placed m.sets m.base (off m e) (place e) w inside put.others short small fits fine.single fine.placed (put.here small) free;
            gathered = worded_put (near m) (near (changed m e w summary held)) m.held.word held.word e.server e.instant proper.0 put_near fine.gathered (more.here small) more.others;
          }

    -- a mark is taken away
    module _ (was : near o e.server ≡ Some e.instant) (gone : Cleared (word m.sets (off m e)) (place e) w.word) (sum : bit summary (off m e) ≡ min 1 w.word) (rest : (j : ℕ) → j ≢ off m e → bit summary j ≡ bit m.summary j) (less : Cleared m.held.word (place e) held.word) where
      at' : Standing m e
      at' = standing e was

      inside' : off m e < length m.sets
      inside' = omega (arith, at'.short)

      taken_near : Taken (near m) (near (changed m e w summary held)) (Some e)
      taken_near = (
        marked_at (set m.sets (off m e) w) m.base e.server at'.server.0
            ∙ clear_spot m.sets m.base (off m e) (place e) w inside' gone.others at'.short fine.single fine.placed at'.stands gone.here,
        λ k u. marked_rest m.sets m.base (off m e) (place e) w inside' gone.others k (λ q. u (omega (arith, at'.server))),
      )

      pub clearing_taken : Taken (near o) (near (changed m e w summary held)) (Some e)
      clearing_taken = subst (λ (z : Parts). Taken (near z) (near (changed m e w summary held)) (Some e)) is taken_near

      pub clearing_fine : Fine m.base (set m.sets (off m e) w) summary held
      clearing_fine = record {
        early = fine.early;
        summed = summed_set m.sets m.summary summary (off m e) w fine.summed inside' sum rest;
        single = clear_single m.sets m.base (off m e) (place e) w inside' gone.others at'.short fine.single fine.placed at'.stands gone.here;
        placed = clear_placed m.sets m.base (off m e) (place e) w inside' gone.others at'.short fine.single fine.placed at'.stands gone.here;
        gathered = worded_taken (near m) (near (changed m e w summary held)) m.held.word held.word e at'.server.0 taken_near fine.gathered less.here less.others;
      }
