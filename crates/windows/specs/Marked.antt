-- What marks say: a set of servers to an instant.
use Rattle.std.specs.Prelude.{◌≡◌, ℕ, zero, suc, ◌+◌, ◌<◌, ◌≤◌, min, cond, List, Some, None, Option, ◌==◌, ◌≢◌, slice_index_or, refl}
use Rattle.bits.specs.Words.{bit}
use Rattle.bits.specs.declared.server_set.ServerSet.{ServerSet}
use Rattle.limits.specs.Ranges.{horizon}
use Rattle.queues.specs.Dues.{Due, Within}
use Rattle.queues.specs.Finds.{clash}
use Rattle.queues.specs.Words.{Worded}
use Rattle.std.proofs.lemmas.Bool.{cases_eq, cond-false, cond-true, eq-eqb, ne_eqb}
use Rattle.std.proofs.Common.{inl, inr, sym, ◌∙◌, arith}

-- the parts of the marks
pub record Parts : Type 0 where
  pub base : ℕ
  pub sets : List ServerSet
  pub summary : ℕ
  pub held : ServerSet

-- the word of set i
abbrev pub word : List ServerSet → ℕ → ℕ
word sets i = (slice_index_or sets i (record { word = 0 })).word

-- bit p of set i, which is of the server p + 1
abbrev pub at : List ServerSet → ℕ → ℕ → ℕ
at sets i p = bit (word sets i) p

-- the instant at which the first n sets have bit p
abbrev pub spot : List ServerSet → ℕ → ℕ → ℕ → Option ℕ
spot sets base zero p = None
spot sets base (suc n) p = cond (at sets n p == 1) (Some (base + n)) (spot sets base n p)

-- the instant at which a server is marked: set i is of the instant base + i
abbrev pub marked : List ServerSet → ℕ → Due
marked sets base zero = None
marked sets base (suc p) = spot sets base 64 p

-- the same, of the parts
abbrev pub near : Parts → Due
near m = marked m.sets m.base

-- no server is in two sets
abbrev pub Single : List ServerSet → Type 0
Single sets = (i j p : ℕ) → i < j → j < 64 → at sets i p + at sets j p < 2

-- the sets are of servers, and of instants not past the horizon where they have one
abbrev pub Placed : List ServerSet → ℕ → Type 0
Placed sets base = (i p : ℕ) → i < 64 → at sets i p ≡ 1 → (p < 64) × (base + i ≤ horizon)

-- the summary has a bit for each set that has a server
abbrev pub Summed : List ServerSet → ℕ → Type 0
Summed sets summary = (i : ℕ) → i < 64 → bit summary i ≡ min 1 (word sets i)

-- what ties the parts to each other; `held` has the servers that are in some set
pub record Fine (base : ℕ) (sets : List ServerSet) (summary : ℕ) (held : ServerSet) : Type 0 where
  pub early : base ≤ horizon
  pub summed : Summed sets summary
  pub single : Single sets
  pub placed : Placed sets base
  pub gathered : Worded (marked sets base) held.word

-- the same, of the parts
abbrev pub Sane : Parts → Type 0
Sane m = Fine m.base m.sets m.summary m.held

-- the last of the sets has the bit
pub spot_hit : (sets : List ServerSet) (base n p : ℕ) → at sets n p ≡ 1 → spot sets base (suc n) p ≡ Some (base + n)
spot_hit sets base n p e = cond-true (at sets n p == 1) (Some (base + n)) (spot sets base n p) (eq-eqb (at sets n p) 1 e)

-- or it does not
pub spot_miss : (sets : List ServerSet) (base n p : ℕ) → (at sets n p ≢ 1) → spot sets base (suc n) p ≡ spot sets base n p
spot_miss sets base n p e = cond-false (at sets n p == 1) (Some (base + n)) (spot sets base n p) (ne_eqb (at sets n p) 1 e)

-- the set that has the bit
pub spot_from : (sets : List ServerSet) (base n p t : ℕ) → spot sets base n p ≡ Some t → (i : ℕ) × (i < n) × (at sets i p ≡ 1) × (base + i ≡ t)
spot_from sets base zero p t e = absurd (clash refl e)
spot_from sets base (suc n) p t e = elim (cases_eq (at sets n p) 1) [
  | inl u ↦ (n, omega arith, u, (let h = spot_hit sets base n p u in cc))
  | inr u ↦ let r = spot_from sets base n p t (sym (spot_miss sets base n p u) ∙ e) in (r.0, omega arith, r.2, r.3)
]

-- only servers are marked, and none past the horizon
pub marked_within : (sets : List ServerSet) (base : ℕ) → Placed sets base → Within (marked sets base)
marked_within sets base h zero t e = absurd (clash refl e)
marked_within sets base h (suc p) t e =
    let r = spot_from sets base 64 p t e in
    let b = h r.0 p r.1 r.2 in
    (omega arith, omega arith, omega arith)
