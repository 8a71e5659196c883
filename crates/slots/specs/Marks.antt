-- What the methods of a slot do and answer.
use Rattle.std.specs.Prelude.{ℕ, ◌+◌, ◌-◌, ◌^◌, ◌<◌, cond, List, Some, None, Option, ◌==◌, nat_lt, slice_index_or, slice_set}
use Rattle.slots.specs.declared.slot.Slot.{Slot}
use Rattle.slots.specs.declared.slot.Slot.TheVariants.{Absent, Resting, Working}
use Rattle.slots.specs.declared.slot.Closed.{Closed}
use Rattle.slots.specs.declared.slot.Closed.TheVariants.{Nothing, Rests, Next, Late}

-- k ticks of service
abbrev pub served_by : ℕ → Slot → Slot
served_by k Absent = Absent
served_by k (Resting c) = Resting c
served_by k (Working w) = Working (record { cap = w.cap; end = w.end; unserved = w.unserved - k; left = w.left - k; limit = w.limit; period = w.period })

-- the slots once the slot to serve, if there is one, has been served for k ticks
abbrev pub served_for : ℕ → List Slot → Option ℕ → List Slot
served_for k xs None = xs
served_for k xs (Some i) = slice_set xs i (served_by k (slice_index_or xs i Absent))

-- what is unserved of the present stretch
abbrev pub owed : Slot → ℕ
owed Absent = 0
owed (Resting c) = 0
owed (Working w) = w.unserved

-- the next stretch ends before the clock does
abbrev pub Ample : Slot → Type 0
Ample Absent = Unit {0}
Ample (Resting c) = Unit {0}
Ample (Working w) = w.end + w.period < 2 ^ 64

-- what closing answers
abbrev pub closing : ℕ → Slot → Closed
closing t Absent = Nothing
closing t (Resting c) = Nothing
closing t (Working w) = cond (w.end == t) (cond (nat_lt 0 w.unserved) Late (cond (w.left == 0) Rests (Next (w.end + w.period)))) Nothing
