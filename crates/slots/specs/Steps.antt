-- The board as a function of its clock and its slots: what each call answers, and what it leaves.
use Rattle.std.specs.Prelude.{◌≡◌, ℕ, ◌+◌, ◌-◌, ◌*◌, min, Bool, true, false, cond, not, ◌&&◌, List, [], ◌∷◌, replicate, Some, None, Ok, Err, Option, Result, ◌==◌, nat_lt, slice_index_or, slice_set}
use Rattle.limits.specs.declared.refusal.Refusal.{Refusal}
use Rattle.release.specs.Openings.{opening_of}
use Rattle.release.specs.declared.opening.Opening.{Opening}
use Rattle.release.specs.Actions.{Action, Meaning, forecast}
use Rattle.slots.specs.Checks.{admit_check, leave_check, start_check, tick_check}
use Rattle.slots.specs.Slots.{cap_of, late, pick, serve, tick, total}
use Rattle.slots.specs.declared.sets.Sets.{Sets}
use Rattle.slots.specs.declared.sets.Ticked.{Ticked}
use Rattle.slots.specs.declared.slot.Slot.{Slot}
use Rattle.slots.specs.declared.slot.Slot.TheVariants.{Absent, Resting, Working}
use Rattle.slots.specs.declared.slot.Work.{Work}

pub record Model : Type 0 where
  pub clock : ℕ
  pub slots : List Slot

-- a new board
abbrev pub fresh : Model
fresh = record { clock = 0; slots = replicate 64 Absent }

-- the slot of the server s
abbrev pub slot_of : List Slot → ℕ → Slot
slot_of xs s = slice_index_or xs (s - 1) Absent

abbrev pub put : Model → ℕ → Slot → Model
put m s x = record { clock = m.clock; slots = slice_set m.slots (s - 1) x }

-- the server is admitted
abbrev pub present : Slot → Bool
present Absent = false
present (Resting c) = true
present (Working w) = true

-- the server has an action at work
abbrev pub works : Slot → Bool
works Absent = false
works (Resting c) = false
works (Working w) = true

-- the answer where no check fails, else the refusal
abbrev pub judged : {A : Type 0} → Option Refusal → A → Result A Refusal
judged None a = Ok a
judged (Some why) a = Err why

-- a refusal leaves the state as it was
abbrev pub changed : Option Refusal → Model → Model → Model
changed None old new = new
changed (Some why) old new = old

-- admit
abbrev pub admit_refusal : Model → ℕ → ℕ → Option Refusal
admit_refusal m s c = admit_check s c (present (slot_of m.slots s)) (total cap_of m.slots)

abbrev pub admit_after : Model → ℕ → ℕ → Model
admit_after m s c = changed (admit_refusal m s c) m (put m s (Resting c))

-- leave
abbrev pub leave_refusal : Model → ℕ → Option Refusal
leave_refusal m s = leave_check s (present (slot_of m.slots s)) (works (slot_of m.slots s))

abbrev pub leave_after : Model → ℕ → Model
leave_after m s = changed (leave_refusal m s) m (put m s Absent)

-- start: the action arrives now
abbrev pub arriving : Model → ℕ → ℕ → ℕ → Action
arriving m load limit period = record { arrival = m.clock; load = load; limit = limit; period = period }

-- the first stretch of an action: up to the first boundary, or the first period where it arrives on the boundary
abbrev pub opened_by : ℕ → Action → Opening → Work
opened_by c k o = record {
  cap = c;
  end = cond (nat_lt k.arrival o.boundary) o.boundary (o.boundary + k.period);
  unserved = min k.load (cond (nat_lt k.arrival o.boundary) o.amount k.limit);
  left = k.load;
  limit = k.limit;
  period = k.period;
}

abbrev pub opened : Meaning → ℕ → Action → Work
opened rule c k = opened_by c k (opening_of rule k)

abbrev pub start_refusal : Meaning → Model → ℕ → Action → Option Refusal
start_refusal rule m s k = start_check rule s k (present (slot_of m.slots s)) (works (slot_of m.slots s)) (cap_of (slot_of m.slots s))

abbrev pub start_answer : Meaning → Model → ℕ → Action → Result ℕ Refusal
start_answer rule m s k = judged (start_refusal rule m s k) (forecast rule k)

abbrev pub start_after : Meaning → Model → ℕ → Action → Model
start_after rule m s k = changed (start_refusal rule m s k) m (put m s (Working (opened rule (cap_of (slot_of m.slots s)) k)))

-- a stretch that ends at t, with no load left
abbrev pub ends : ℕ → Slot → Bool
ends t Absent = false
ends t (Resting c) = false
ends t (Working w) = w.end == t && w.left == 0

-- the same with load left
abbrev pub goes_on : ℕ → Slot → Bool
goes_on t Absent = false
goes_on t (Resting c) = false
goes_on t (Working w) = w.end == t && not (w.left == 0)

-- the servers whose slots pass, as a number: the sum of 2^(s - 1) over these servers s
abbrev pub mask : (Slot → Bool) → List Slot → ℕ
mask f [] = 0
mask f (x ∷ xs) = cond (f x) 1 0 + 2 * mask f xs

-- the sets of closing the instant t
abbrev pub sets : ℕ → List Slot → Sets
sets t xs = record { released = record { word = mask (goes_on t) xs }; ended = record { word = mask (ends t) xs }; late = record { word = mask (late t) xs } }

-- the server in the slot i
abbrev pub number : Option ℕ → Option ℕ
number None = None
number (Some i) = Some (i + 1)

-- tick
abbrev pub ticked : Model → Ticked
ticked m = record { served = number (pick m.slots); sets = sets (m.clock + 1) (serve m.slots) }

-- never late: no tick answers a late server
abbrev pub Punctual : Result Ticked Refusal → Type 0
Punctual (Ok k) = k.sets.late.word ≡ 0
Punctual (Err why) = Unit {0}

-- never late: nobody is in the late set
abbrev pub NobodyLate : Sets → Type 0
NobodyLate z = z.late.word ≡ 0

-- whoever is served has an action at work
abbrev pub ServesAtWork : Model → Option ℕ → Type 0
ServesAtWork m None = Unit {0}
ServesAtWork m (Some s) = works (slot_of m.slots s) ≡ true

abbrev pub tick_refusal : Model → Option Refusal
tick_refusal m = tick_check m.clock

abbrev pub moved : Model → Model
moved m = record { clock = m.clock + 1; slots = tick m.clock m.slots }

abbrev pub tick_after : Model → Model
tick_after m = changed (tick_refusal m) m (moved m)
