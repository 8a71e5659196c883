-- Many ticks in one call: how many they are, what is answered, and what the board is after them.
use Rattle.std.specs.Prelude.{◌≡◌, ℕ, zero, suc, ◌+◌, ◌-◌, ◌<◌, ◌≤◌, min, List, [], ◌∷◌, Some, None, Option, slice_index_or}
use Rattle.limits.specs.Ranges.{horizon}
use Rattle.limits.specs.declared.refusal.Refusal.{Refusal}
use Rattle.slots.specs.Checks.{advance_check}
use Rattle.slots.specs.Marks.{owed}
pub use Rattle.slots.specs.Members.{nobody}
use Rattle.slots.specs.Slots.{pick}
use Rattle.slots.specs.Steps.{Model, changed, moved, ticked}
use Rattle.slots.specs.declared.sets.Advanced.{Advanced}
use Rattle.slots.specs.declared.slot.Slot.{Slot}
use Rattle.slots.specs.declared.slot.Slot.TheVariants.{Absent, Resting, Working}

-- the board after k ticks
abbrev pub turns : ℕ → Model → Model
turns zero m = m
turns (suc k) m = moved (turns k m)

-- An advance by n from m may make k ticks: one at least, up to n and the horizon, all of them serve the same server or none,
-- and all but the last give three empty sets.
pub record Allowed (m : Model) (n k : ℕ) : Type 0 where
  pub some : 1 ≤ k
  pub within : k ≤ n
  pub early : m.clock + k ≤ horizon
  pub same : (i : ℕ) → i < k → (ticked (turns i m)).served ≡ (ticked m).served
  pub quiet : (i : ℕ) → i + 1 < k → (ticked (turns i m)).sets ≡ nobody

-- k is the largest number of ticks that an advance by n from m may make
pub record Largest (m : Model) (n k : ℕ) : Type 0 where
  pub allowed : Allowed m n k
  pub most : (j : ℕ) → Allowed m n j → j ≤ k

-- the ticks from t to the first end of a stretch, c at most
abbrev pub until_end_of : ℕ → List Slot → ℕ → ℕ
until_end_of t [] c = c
until_end_of t (Absent ∷ xs) c = until_end_of t xs c
until_end_of t (Resting b ∷ xs) c = until_end_of t xs c
until_end_of t (Working w ∷ xs) c = min (w.end - t) (until_end_of t xs c)

-- what the slot to serve has unserved, c at most
abbrev pub owing : List Slot → Option ℕ → ℕ → ℕ
owing xs None c = c
owing xs (Some i) c = min (owed (slice_index_or xs i Absent)) c

-- that number, computed: up to n, the horizon, the first end of a stretch, and the last tick owed to the server that is served
unfoldable pub span : Model → ℕ → ℕ
span m n = owing m.slots (pick m.slots) (until_end_of m.clock m.slots (min n (horizon - m.clock)))

-- advance
abbrev pub advance_refusal : Model → ℕ → Option Refusal
advance_refusal m n = advance_check n m.clock

-- k ticks from m, as they are answered
abbrev pub leapt : Model → ℕ → Advanced
leapt m k = record { served = (ticked m).served; ticks = k; sets = (ticked (turns (k - 1) m)).sets }

abbrev pub advanced : Model → ℕ → Advanced
advanced m n = leapt m (span m n)

abbrev pub advance_after : Model → ℕ → Model
advance_after m n = changed (advance_refusal m n) m (turns (span m n) m)
