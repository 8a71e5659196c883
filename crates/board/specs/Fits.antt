-- What holds of the slots, and what they tell the queues.
use Rattle.std.specs.Prelude.{◌≡◌, ℕ, zero, suc, ◌+◌, ◌-◌, ◌*◌, ◌≤◌, cond, List, Some, None, Ok, Err, Option, Result, nat_lt, slice_index_or}
use Rattle.std.specs.Coded.{Unit-prop, le_prop}
use Rattle.std.specs.List.{AllByRecursion-prop}
use Rattle.limits.specs.Ranges.{horizon, most_ticks}
use Rattle.limits.specs.declared.refusal.Refusal.{Refusal}
use Rattle.limits.specs.declared.refusal.Refusal.TheVariants.{NotAdmitted, ActionAtWork}
use Rattle.release.specs.Actions.{ceil}
use Rattle.slots.specs.Slots.{Fine, Sound}
use Rattle.slots.specs.declared.slot.Slot.{Slot}
use Rattle.slots.specs.declared.slot.Slot.TheVariants.{Absent, Resting, Working}
use Rattle.slots.specs.declared.slot.Work.{Work}

-- the end of the present stretch of a slot that works
abbrev pub end_at : Slot → Option ℕ
end_at Absent = None
end_at (Resting c) = None
end_at (Working w) = Some w.end

-- the same of a slot whose stretch has ticks unserved
abbrev pub wait_at : Slot → Option ℕ
wait_at Absent = None
wait_at (Resting c) = None
wait_at (Working w) = cond (nat_lt 0 w.unserved) (Some w.end) None

-- what the slots tell of each server
abbrev pub noted : (Slot → Option ℕ) → List Slot → ℕ → Option ℕ
noted f xs zero = None
noted f xs (suc k) = f (slice_index_or xs k Absent)

-- the cap of a slot that rests, else why it does not
abbrev pub resting_cap_of : Slot → Result ℕ Refusal
resting_cap_of Absent = Err NotAdmitted
resting_cap_of (Resting c) = Ok c
resting_cap_of (Working w) = Err ActionAtWork

-- the period of a slot that works
abbrev pub period_of : Slot → ℕ
period_of Absent = 0
period_of (Resting c) = 0
period_of (Working w) = w.period

-- where an action ends: one period after its present stretch for each limit, whole or begun, of the load that is left by then
abbrev pub last_end : Slot → ℕ
last_end Absent = 0
last_end (Resting c) = 0
last_end (Working w) = w.end + w.period * ceil (w.left - w.unserved) w.limit

-- an action that ends by the horizon
abbrev pub Lasting : Slot → Type 0
Lasting x = (period_of x ≤ most_ticks) × (last_end x ≤ horizon)

abbrev pub AllLast : List Slot → Type 0
AllLast xs = (i : ℕ) → Lasting (slice_index_or xs i Absent)

-- a working slot while the instant t is closed
pub record Steady (t : ℕ) (w : Work) : Type 0 where
  pub later : t ≤ w.end
  pub done : w.end ≡ t → w.unserved ≡ 0
  pub some : 1 ≤ w.limit
  pub slow : w.limit ≤ w.period
  pub lasts : Lasting (Working w)

abbrev pub Fit : ℕ → Slot → Type 0
Fit t Absent = Unit {0}
Fit t (Resting c) = Unit {0}
Fit t (Working w) = Steady t w

abbrev pub AllFit : ℕ → List Slot → Type 0
AllFit t xs = (i : ℕ) → Fit t (slice_index_or xs i Absent)

Fine-prop : (t : ℕ) (x : Slot) → IsProp (Fine t x)
Fine-prop t Absent = Unit-prop
Fine-prop t (Resting c) = le_prop
Fine-prop t (Working w) = λ a b i. (le_prop a.0 b.0 i, le_prop a.1 b.1 i, le_prop a.2 b.2 i, le_prop a.3 b.3 i, le_prop a.4 b.4 i, le_prop a.5 b.5 i)

-- the invariant of the slots has one proof at most
pub Sound-prop : (t : ℕ) (xs : List Slot) → IsProp (Sound t xs)
Sound-prop t xs a b = λ i. record {
  caps = le_prop a.caps b.caps i;
  each = AllByRecursion-prop (Fine t) (Fine-prop t) xs a.each b.each i;
  bound = λ d l. le_prop (a.bound d l) (b.bound d l) i;
}
