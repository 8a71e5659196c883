-- Which check a call fails, and when none.
use Rattle.std.proofs.Common.{◌≡◌, ℕ, ◌<◌, ◌≤◌, Some, None, Err, Result, sym, refl, ap}
use Rattle.limits.proofs.Passed.{refuse_none}
use Rattle.limits.specs.Checks.{cap_check, server_check}
use Rattle.limits.specs.Ranges.{horizon, outside, servers, unit}
use Rattle.limits.specs.declared.refusal.Refusal.{Refusal}
use Rattle.limits.specs.declared.refusal.Refusal.TheVariants.{ActionAtWork, Cap, NotAdmitted, ServerNumber}
use Rattle.release.proofs.Values.{inside}
use Rattle.release.specs.Actions.{Action, Meaning}
use Rattle.release.specs.Forecasts.{values_check}
use Rattle.slots.specs.Advances.{advance_refusal}
use Rattle.slots.specs.Steps.{Model, slot_of, start_refusal, tick_refusal}
use Rattle.slots.specs.declared.slot.Slot.{Slot}
use Rattle.slots.specs.declared.slot.Slot.TheVariants.{Absent, Resting, Working}
use Rattle.board.specs.Fits.{resting_cap_of}
use Rattle.std.proofs.lemmas.Bool.{le-ltb, lt-leb}

pub server_none : (s : ℕ) → server_check s ≡ None → (1 ≤ s) × (s ≤ servers)
server_none s h = inside s servers (refuse_none (outside s servers) ServerNumber None h).0

pub cap_none : (c : ℕ) → cap_check c ≡ None → (1 ≤ c) × (c ≤ unit)
cap_none c h = inside c unit (refuse_none (outside c unit) Cap None h).0

-- a start of a server that does not rest
pub start_idle : (rule : Meaning) (m : Model) (s : ℕ) (k : Action) → server_check s ≡ None → values_check k ≡ None → (why : Refusal) → ◌≡◌ {A = Result ℕ Refusal} (Err why) (resting_cap_of (slot_of m.slots s)) → start_refusal rule m s k ≡ Some why
start_idle rule m s k a v why h = go (slot_of m.slots s) refl h
  where
    go : (x : Slot) → slot_of m.slots s ≡ x → ◌≡◌ {A = Result ℕ Refusal} (Err why) (resting_cap_of x) → start_refusal rule m s k ≡ Some why
    go Absent is e = simp (a, v, is) (let w : why ≡ NotAdmitted = cc in ap Some (sym w))
    go (Resting c) is e = cc
    go (Working w) is e = simp (a, v, is) (let z : why ≡ ActionAtWork = cc in ap Some (sym z))

pub tick_accepted : (m : Model) → m.clock < horizon → tick_refusal m ≡ None
tick_accepted m l = simp (lt-leb horizon m.clock l)

pub advance_accepted : (m : Model) (n : ℕ) → 1 ≤ n → n ≤ horizon → m.clock < horizon → advance_refusal m n ≡ None
advance_accepted m n lo hi l = simp (le-ltb n 1 lo, le-ltb horizon n hi, lt-leb horizon m.clock l)
