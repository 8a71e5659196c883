-- Traces, computed: some that keep the share law, and one for each of many ways to break it.
use Rattle.limits.specs.Tasks.{task}
use Rattle.std.specs.Prelude.{ℕ, List, [], ◌∷◌, ◌++◌, Some, None, Ok, Err, Option}
use Rattle.limits.specs.declared.refusal.Refusal.TheVariants.{ActionAtWork}
use Rattle.release.specs.Actions.{Meaning}
use Rattle.release.specs.Rules.{early, late}
use Rattle.share.specs.Answers.{Answer}
use Rattle.share.specs.Share.{Kept}
use Rattle.share.specs.Traces.{Trace, nothing, said}
use Rattle.share.specs.declared.calls.Call.{Call}
use Rattle.share.specs.declared.calls.Call.TheVariants.{Admit, Leave, Start, Tick, Advance}
use Rattle.share.specs.declared.calls.Outcome.TheVariants.{Done, Started, Ticked, Advanced}
use Rattle.slots.specs.declared.sets.Sets.{Sets}

pub data Example : Type 0 where
  -- under the rule, the trace keeps the law
  keeps : Meaning → Trace → Example
  -- or breaks it
  breaks : Meaning → Trace → Example

abbrev pub Holds : Example → Type 0
Holds (keeps rule p) = Kept rule p
Holds (breaks rule p) = Kept rule p → ⊥

-- calls and their answers, the first one first
abbrev pub trace_of : Trace → List (Call × Answer) → Trace
trace_of p [] = p
trace_of p (x ∷ xs) = trace_of (said p x.0 x.1) xs

abbrev pub spoken : List (Call × Answer) → Trace
spoken xs = trace_of nothing xs

-- the words of the sets released, ended and late
abbrev pub sets : ℕ → ℕ → ℕ → Sets
sets released ended late = record { released = record { word = released }; ended = record { word = ended }; late = record { word = late } }

-- one tick: the server served, and the sets
abbrev pub ticked : Option ℕ → Sets → Call × Answer
ticked served sets = (Tick, Ok (Ticked (record { served = served; sets = sets })))

-- an advance by n: the server served, the ticks, and the sets
abbrev pub advanced : ℕ → Option ℕ → ℕ → Sets → Call × Answer
advanced n served ticks sets = (Advance n, Ok (Advanced (record { served = served; ticks = ticks; sets = sets })))

abbrev pub none : Sets
none = sets 0 0 0

-- two servers with half the processor each; the second starts in the middle of a period
abbrev pub worked : Trace
worked = spoken (
    (Admit 1 500_000, Ok Done) ∷ (Admit 2 500_000, Ok Done) ∷ (Start 1 (task 3 2 4), Ok (Started 8))
    ∷ advanced 1 (Some 1) 1 none
    ∷ (Start 2 (task 1 1 2), Ok (Started 4))
    ∷ advanced 7 (Some 1) 1 (sets 2 0 0) ∷ advanced 6 (Some 2) 1 none ∷ advanced 5 None 1 (sets 1 2 0)
    ∷ advanced 4 (Some 1) 1 none ∷ advanced 3 None 3 (sets 0 1 0)
    ∷ (Leave 2, Ok Done) ∷ [])

-- a server that starts in the middle of a period, and is released early
abbrev pub released_early : Trace
released_early = spoken (
    (Admit 1 500_000, Ok Done) ∷ ticked None none ∷ (Start 1 (task 3 2 4), Ok (Started 8))
    ∷ advanced 100 (Some 1) 1 none ∷ advanced 100 None 2 (sets 1 0 0) ∷ advanced 100 (Some 1) 2 none ∷ advanced 100 None 2 (sets 0 1 0) ∷ [])

-- a server with half the processor starts a load of two limits
abbrev pub admission : List (Call × Answer)
admission = (Admit 1 500_000, Ok Done) ∷ []

abbrev pub after : List (Call × Answer) → Trace
after xs = spoken (admission ++ (Start 1 (task 2 1 2), Ok (Started 4)) ∷ xs)

abbrev pub served : Call × Answer
served = ticked (Some 1) none

abbrev pub released : Call × Answer
released = ticked None (sets 1 0 0)

-- as it goes on
abbrev pub plain : Trace
plain = after (served ∷ released ∷ served ∷ ticked None (sets 0 1 0) ∷ [])

-- a tick serves a server at rest
abbrev pub served_at_rest : Trace
served_at_rest = spoken (served ∷ [])

-- the action ends one period early
abbrev pub ended_early : Trace
ended_early = after (served ∷ ticked (Some 1) (sets 0 1 0) ∷ [])

-- or one tick late
abbrev pub ended_late : Trace
ended_late = after (served ∷ released ∷ served ∷ ticked None none ∷ ticked None (sets 0 1 0) ∷ [])

-- or never
abbrev pub never_ended : Trace
never_ended = after (served ∷ released ∷ served ∷ released ∷ [])

-- a server that has no action ends one
abbrev pub ended_at_rest : Trace
ended_at_rest = spoken (ticked None (sets 0 1 0) ∷ [])

-- a server is late
abbrev pub late_server : Trace
late_server = after (served ∷ ticked None (sets 1 0 1) ∷ [])

-- a stretch is not served
abbrev pub not_served : Trace
not_served = after (ticked None none ∷ released ∷ [])

-- a next stretch is not told
abbrev pub not_released : Trace
not_released = after (served ∷ ticked None none ∷ [])

-- a start answers an end that is one period early
abbrev pub forecast_early : Trace
forecast_early = spoken (admission ++ (Start 1 (task 2 1 2), Ok (Started 2)) ∷ [])

-- a refusal that no list gives: that the server is not admitted comes first
abbrev pub refused_freely : Trace
refused_freely = spoken ((Leave 1, Err ActionAtWork) ∷ [])

-- more caps than the processor has
abbrev pub caps_over : Trace
caps_over = spoken ((Admit 1 600_000, Ok Done) ∷ (Admit 2 600_000, Ok Done) ∷ [])

-- an advance claims one tick more than it made
abbrev pub one_tick_more : Trace
one_tick_more = after (advanced 10 (Some 1) 2 (sets 1 0 0) ∷ [])

-- or more than it was asked for
abbrev pub past_count : Trace
past_count = spoken (advanced 3 None 4 none ∷ [])

abbrev pub examples : List Example
examples =
    keeps late worked
    ∷ keeps early released_early
    ∷ keeps late plain
    ∷ breaks late served_at_rest
    ∷ breaks late ended_early
    ∷ breaks late ended_late
    ∷ breaks late never_ended
    ∷ breaks late ended_at_rest
    ∷ breaks late late_server
    ∷ breaks late not_served
    ∷ breaks late not_released
    ∷ breaks late forecast_early
    ∷ breaks late refused_freely
    ∷ breaks late caps_over
    ∷ breaks late one_tick_more
    ∷ breaks late past_count
    ∷ []
