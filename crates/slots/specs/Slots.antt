-- The slots, and what one tick does to them: the server with the least end of stretch among those with amount unserved is served, then the stretches that end are closed.
use Rattle.std.specs.Prelude.{◌≡◌, ℕ, suc, ◌+◌, ◌-◌, ◌*◌, ◌<◌, ◌≤◌, min, Bool, true, false, cond, ◌&&◌, List, [], ◌∷◌, map, length, Some, None, Option, ◌==◌, nat_le, nat_lt, slice_index_or, slice_set}
use Rattle.std.specs.List.{AllByRecursion}
use Rattle.limits.specs.Ranges.{unit}
use Rattle.slots.specs.declared.slot.Work.{Work}
use Rattle.slots.specs.declared.slot.Slot.{Slot}
use Rattle.slots.specs.declared.slot.Slot.TheVariants.{Absent, Resting, Working}

-- the sum of f over a list
abbrev pub total : {X : Type 0} → (X → ℕ) → List X → ℕ
total f [] = 0
total f (x ∷ xs) = f x + total f xs

-- the cap that a server holds
abbrev pub cap_of : Slot → ℕ
cap_of Absent = 0
cap_of (Resting c) = c
cap_of (Working w) = w.cap

-- the cap of a server at work
abbrev pub busy : Slot → ℕ
busy Absent = 0
busy (Resting c) = 0
busy (Working w) = w.cap

-- what a slot may still claim up to the instant d
abbrev pub demand : ℕ → Slot → ℕ
demand d Absent = 0
demand d (Resting c) = 0
demand d (Working w) = cond (nat_le w.end d) (unit * w.unserved + w.cap * (d - w.end)) 0

-- a slot that is owed a tick in its present stretch
abbrev pub waits : Slot → Bool
waits Absent = false
waits (Resting c) = false
waits (Working w) = nat_lt 0 w.unserved

-- where its present stretch ends
abbrev pub end_of : Slot → ℕ
end_of Absent = 0
end_of (Resting c) = 0
end_of (Working w) = w.end

-- which of the first slot and of the one chosen behind it comes first
abbrev pub better : Slot → List Slot → Option ℕ → Option ℕ
better s ss None = cond (waits s) (Some 0) None
better s ss (Some i) = cond (waits s && nat_le (end_of s) (end_of (slice_index_or ss i Absent))) (Some 0) (Some (suc i))

-- the slot to serve: the least end, and of equal ends the first
abbrev pub pick : List Slot → Option ℕ
pick [] = None
pick (s ∷ ss) = better s ss (pick ss)

-- the slot i is the one to serve
pub record Chosen (xs : List Slot) (i : ℕ) : Type 0 where
  pub within : i < length xs
  pub waiting : waits (slice_index_or xs i Absent) ≡ true
  pub least : AllByRecursion (λ s. waits s ≡ true → end_of (slice_index_or xs i Absent) ≤ end_of s) xs
  pub first : (k : ℕ) → k < i → waits (slice_index_or xs k Absent) ≡ true → end_of (slice_index_or xs i Absent) < end_of (slice_index_or xs k Absent)

-- what a pick says
abbrev pub Picked : List Slot → Option ℕ → Type 0
Picked xs None = AllByRecursion (λ s. waits s ≡ false) xs
Picked xs (Some i) = Chosen xs i

-- one tick of service
abbrev pub served : Slot → Slot
served Absent = Absent
served (Resting c) = Resting c
served (Working w) = Working (record { cap = w.cap; end = w.end; unserved = w.unserved - 1; left = w.left - 1; limit = w.limit; period = w.period })

abbrev pub served_at : List Slot → Option ℕ → List Slot
served_at xs None = xs
served_at xs (Some i) = slice_set xs i (served (slice_index_or xs i Absent))

abbrev pub serve : List Slot → List Slot
serve xs = served_at xs (pick xs)

-- the next stretch
abbrev pub renewed : Work → Work
renewed w = record { cap = w.cap; end = w.end + w.period; unserved = min w.limit w.left; left = w.left; limit = w.limit; period = w.period }

-- what the instant t makes of a slot: a stretch that ends there is closed
abbrev pub closed : ℕ → Slot → Slot
closed t Absent = Absent
closed t (Resting c) = Resting c
closed t (Working w) = cond (w.end == t) (cond (w.left == 0) (Resting w.cap) (Working (renewed w))) (Working w)

-- the slots after the tick that begins at t
abbrev pub tick : ℕ → List Slot → List Slot
tick t xs = map (closed (t + 1)) (serve xs)

-- a slot whose stretch ends at t with ticks still owed
abbrev pub late : ℕ → Slot → Bool
late t Absent = false
late t (Resting c) = false
late t (Working w) = w.end == t && nat_lt 0 w.unserved

-- the tick that begins at t closes no stretch late
abbrev pub OnTime : ℕ → List Slot → Type 0
OnTime t xs = AllByRecursion (λ s. late (t + 1) s ≡ false) (serve xs)

-- a slot at the instant t
abbrev pub Fine : ℕ → Slot → Type 0
Fine t Absent = Unit {0}
Fine t (Resting c) = 1 ≤ c
Fine t (Working w) = (1 ≤ w.cap) × (t < w.end) × (w.unserved ≤ w.left) × (1 ≤ w.limit) × (w.limit ≤ w.period) × (w.limit * unit ≤ w.cap * w.period)

-- the demand bound
abbrev pub Bounded : ℕ → List Slot → Type 0
Bounded t xs = (d : ℕ) → t ≤ d → total (demand d) xs ≤ total busy xs * (d - t)

-- the invariant of the slots at the instant t
pub record Sound (t : ℕ) (xs : List Slot) : Type 0 where
  pub caps : total cap_of xs ≤ unit
  pub each : AllByRecursion (Fine t) xs
  pub bound : Bounded t xs

-- a resting slot i begins to work: a first stretch up to b, of a ticks
abbrev pub started : List Slot → ℕ → Work → List Slot
started xs i w = slice_set xs i (Working w)

-- which first stretches fit
pub record FitsIn (t : ℕ) (w : Work) : Type 0 where
  pub later : t < w.end
  pub within : w.unserved ≤ w.left
  pub some : 1 ≤ w.limit
  pub short : w.limit ≤ w.period
  pub rate : w.limit * unit ≤ w.cap * w.period
  pub first : unit * w.unserved ≤ w.cap * (w.end - t)
