-- One slot, and what a trace tells of its server.
use Rattle.std.proofs.Common.{◌≡◌, ℕ, suc, ◌+◌, ◌<◌, ◌≤◌, Bool, true, false, cond, not, eqb, sym, refl, ap, ◌∙◌, ⊎_elim, arith}
use Rattle.release.proofs.Boundaries.{boundary_is, first_below, first_from, first_none}
use Rattle.release.proofs.Values.{Ranged}
use Rattle.release.specs.Actions.{Action, Completes, Meaning, boundary, due, first_boundary_of}
use Rattle.slots.proofs.Closing.{nothing_owed}
use Rattle.slots.specs.Slots.{Fine, cap_of, closed, late, renewed, served, waits}
use Rattle.slots.specs.Steps.{ends, goes_on, opened, present, works}
use Rattle.slots.specs.declared.slot.Slot.{Slot}
use Rattle.slots.specs.declared.slot.Slot.TheVariants.{Absent, Resting, Working}
use Rattle.slots.specs.declared.slot.Work.{Work}
use Rattle.std.proofs.lemmas.Bool.{and_from, and_parts, both_ways, cases_Bool, cases_lt, eq-eqb, eqb-false, eqb-true, le-ltb, lt-ltb, ltb-true, ne_eqb, not_from_false, not-true}

-- The slot w at the instant t is at the action k, of which sv ticks were served: in its stretch `turn`.
pub record Paced (rule : Meaning) (k : Action) (sv t : ℕ) (w : Work) : Type 0 where
  pub limit : w.limit ≡ k.limit
  pub period : w.period ≡ k.period
  pub turn : ℕ
  pub end : w.end ≡ boundary k turn
  pub begun : w.end ≤ t + w.period
  pub left : sv + w.left ≡ k.load
  pub owed : sv + w.unserved ≡ due rule k turn
  pub short : (i : ℕ) → i < turn → due rule k i < k.load

-- What a trace tells of one server: whether it is admitted, its cap, whether it is at work, its last action and the ticks
-- served since that arrived; and the clock.
pub record Seen : Type 0 where
  pub there : Bool
  pub cap : ℕ
  pub busy : Bool
  pub last : Action
  pub given : ℕ
  pub clock : ℕ

-- the slot is as the trace tells
abbrev pub Suits : Meaning → Seen → Slot → Type 0
Suits rule o Absent = (o.there ≡ false) × (o.cap ≡ 0) × (o.busy ≡ false)
Suits rule o (Resting c) = (o.there ≡ true) × (o.cap ≡ c) × (o.busy ≡ false)
Suits rule o (Working w) = (o.there ≡ true) × (o.cap ≡ w.cap) × (o.busy ≡ true) × Paced rule o.last o.given o.clock w

-- what the checks look at
pub suits_tells : (rule : Meaning) (o : Seen) (x : Slot) → Suits rule o x → (present x ≡ o.there) × (works x ≡ o.busy) × (cap_of x ≡ o.cap)
suits_tells rule o Absent h = (sym h.0, sym h.2, sym h.1)
suits_tells rule o (Resting c) h = (sym h.0, sym h.2, sym h.1)
suits_tells rule o (Working w) h = (sym h.0, sym h.2, sym h.1)

-- a tick of service, if b
abbrev pub served_by : Bool → Seen → Seen
served_by b o = record { there = o.there; cap = o.cap; busy = o.busy; last = o.last; given = cond b (o.given + 1) o.given; clock = o.clock }

-- the next instant, at which the action ends, if b
abbrev pub closed_by : Bool → Seen → Seen
closed_by b o = record { there = o.there; cap = o.cap; busy = cond b false o.busy; last = o.last; given = o.given; clock = o.clock + 1 }

module _ (rule : Meaning) (o : Seen) where
  abbrev t : ℕ
  t = o.clock

  abbrev k : Action
  k = o.last

  pub suits_served : (b : Bool) (x : Slot) → (b ≡ true → waits x ≡ true) → Suits rule o x → Suits rule (served_by b o) (cond b (served x) x)
  suits_served false x w h = h
  suits_served true Absent w h = absurd (both_ways false refl (w refl))
  suits_served true (Resting c) w h = absurd (both_ways false refl (w refl))
  suits_served true (Working v) w h =
      let u = ltb-true 0 v.unserved (w refl) in
      let g = h.3 in
      let l = g.left in
      let d = g.owed in
      (h.0, h.1, h.2, record { limit = g.limit; period = g.period; turn = g.turn; end = g.end; begun = g.begun; left = omega arith; owed = omega arith; short = g.short })

  -- the stretch goes on
  later : (w : Work) → Paced rule k o.given t w → Paced rule k o.given (t + 1) w
  later w g = record { limit = g.limit; period = g.period; turn = g.turn; end = g.end; begun = let b = g.begun in omega arith; left = g.left; owed = g.owed; short = g.short }

  -- the next stretch
  next : (w : Work) → w.end ≡ t + 1 → w.unserved ≡ 0 → (w.left ≡ 0 → ⊥) → Paced rule k o.given t w → Paced rule k o.given (t + 1) (renewed w)
  next w e z some g =
      let lm = g.limit in
      let pd = g.period in
      let en = g.end in
      let lf = g.left in
      let ow = g.owed in
      record {
        limit = lm;
        period = pd;
        turn = suc g.turn;
        end = omega arith;
        begun = omega arith;
        left = lf;
        owed = omega arith;
        short = λ i h. ⊎_elim (λ (q : i < g.turn). g.short i q) (λ (q : g.turn ≤ i). let same : i ≡ g.turn = omega arith in rw same (omega arith)) (cases_lt i g.turn);
      }

  -- the instant t + 1 closes what ends there
  pub suits_closed : (x : Slot) → late (t + 1) x ≡ false → Suits rule o x → Suits rule (closed_by (ends (t + 1) x) o) (closed (t + 1) x)
  suits_closed Absent l h = h
  suits_closed (Resting c) l h = h
  suits_closed (Working w) l h =
      ⊎_elim
      (λ (e : eqb w.end (t + 1) ≡ true).
      let here = eqb-true w.end (t + 1) e in
      let z = nothing_owed (t + 1) w l here in
      ⊎_elim
      (λ (d : eqb w.left 0 ≡ true). simp (e, d) (h.0, h.1, refl))
      (λ (d : eqb w.left 0 ≡ false). simp (e, d) (h.0, h.1, h.2, next w here z (eqb-false w.left 0 d) h.3))
      (cases_Bool (eqb w.left 0)))
      (λ (e : eqb w.end (t + 1) ≡ false). simp e (h.0, h.1, h.2, later w h.3))
      (cases_Bool (eqb w.end (t + 1)))

  -- what the instant t + 1 tells of a server at work
  pub record Tells (x : Slot) : Type 0 where
    pub over : ends (t + 1) x ≡ true → (j : ℕ) × (t + 1 ≡ boundary k j) × (o.given ≡ due rule k j) × Completes rule k j
    pub renews : goes_on (t + 1) x ≡ true → (j : ℕ) × (t + 1 ≡ boundary k j) × (due rule k j < k.load)
    pub renewed_at : (j : ℕ) → t + 1 ≡ boundary k j → due rule k j < k.load → goes_on (t + 1) x ≡ true
    pub on : ends (t + 1) x ≡ false → (j : ℕ) → boundary k j ≡ t + 1 → (o.given ≡ due rule k j) × (due rule k j < k.load)

  pub suits_shows : (x : Slot) → Fine t x → late (t + 1) x ≡ false → o.busy ≡ true → Suits rule o x → Tells x
  suits_shows Absent f l e h = absurd (both_ways o.busy h.2 e)
  suits_shows (Resting c) f l e h = absurd (both_ways o.busy h.2 e)
  suits_shows (Working w) f l e h =
      let g = h.3 in
      let en = g.end in
      let lf = g.left in
      let ow = g.owed in
      let pd = g.period in
      let bg = g.begun in
      let after = f.1 in
      record {
        over = λ z.
            let a = and_parts (eqb w.end (t + 1)) (eqb w.left 0) z in
            let at = eqb-true w.end (t + 1) a.0 in
            let none = eqb-true w.left 0 a.1 in
            let paid = nothing_owed (t + 1) w l at in
            (g.turn, omega arith, omega arith, (omega arith, g.short));
        renews = λ z.
            let a = and_parts (eqb w.end (t + 1)) (not (eqb w.left 0)) z in
            let at = eqb-true w.end (t + 1) a.0 in
            let some = eqb-false w.left 0 (not-true (eqb w.left 0) a.1) in
            let paid = nothing_owed (t + 1) w l at in
            (g.turn, omega arith, omega arith);
        renewed_at = λ j b d.
            let same : j ≡ g.turn = boundary_is k j g.turn (omega arith) (omega arith) in
            let at : w.end ≡ t + 1 = en ∙ ap (boundary k) (sym same) ∙ sym b in
            let paid = nothing_owed (t + 1) w l at in
            let d' : due rule k g.turn < k.load = rw same at d in
            let some : w.left ≡ 0 → ⊥ = λ n. omega arith in
            and_from (eqb w.end (t + 1)) (not (eqb w.left 0)) (eq-eqb w.end (t + 1) at) (not_from_false (eqb w.left 0) (ne_eqb w.left 0 some));
        on = λ z j b.
            let same : j ≡ g.turn = boundary_is k j g.turn (omega arith) (omega arith) in
            let at : w.end ≡ t + 1 = en ∙ ap (boundary k) (sym same) ∙ b in
            let paid = nothing_owed (t + 1) w l at in
            let some : w.left ≡ 0 → ⊥ = λ n. both_ways (ends (t + 1) (Working w)) z (and_from (eqb w.end (t + 1)) (eqb w.left 0) (eq-eqb w.end (t + 1) at) (eq-eqb w.left 0 n)) in
            rw same (omega arith, omega arith);
      }

-- an action as it begins
pub open_pace : (rule : Meaning) (c : ℕ) (k : Action) → Ranged k → Paced rule k 0 k.arrival (opened rule c k)
open_pace rule c k r =
    let p = r.period_low in
    let n = r.load_low in
    let a = first_from k p in
    let b = first_below k p in
    ⊎_elim
    (λ (q : k.arrival < first_boundary_of k).
    simp (lt-ltb k.arrival (first_boundary_of k) q) (record { limit = refl; period = refl; turn = 0; end = omega arith; begun = omega arith; left = omega arith; owed = omega arith; short = λ i l. absurd (omega arith) }))
    (λ (q : first_boundary_of k ≤ k.arrival).
    let z = first_none rule k q in
    simp (le-ltb k.arrival (first_boundary_of k) q) (record { limit = refl; period = refl; turn = 1; end = omega arith; begun = omega arith; left = omega arith; owed = omega arith; short = λ i l. let i0 : i ≡ 0 = omega arith in rw i0 (omega arith) }))
    (cases_lt k.arrival (first_boundary_of k))
