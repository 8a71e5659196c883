-- The share law: after every list of calls on one board, from its making on, each server has its share and no more.
-- It is read from the calls, their answers and the meaning of the release rule, and names nothing inside a board.
use Rattle.std.specs.Prelude.{◌≡◌, ℕ, ◌+◌, ◌-◌, ◌*◌, ◌/◌, ◌<◌, ◌≤◌, true, List, length, Decides, Ok, Err, Option, MatchOption, is_ok}
use Rattle.limits.specs.Ranges.{unit}
use Rattle.limits.specs.Tasks.{task}
use Rattle.limits.specs.declared.refusal.Refusal.{Refusal}
use Rattle.release.specs.Actions.{Action, Completes, Meaning, action, amount, begins, boundary, ceil, due, forecast}
use Rattle.share.specs.Answers.{Answer, timed, told}
use Rattle.share.specs.Traces.{Begins, Trace, admitted, at_work, cap_held, caps_held, clock_of, ends_in, finishes, heard, nothing, releases, said, served_in, serves, spelt}
use Rattle.share.specs.declared.calls.Call.{Call}
use Rattle.share.specs.declared.calls.Call.TheVariants.{Admit, Leave, Start, Tick, Advance}
use Rattle.share.specs.declared.calls.Outcome.TheVariants.{Done, Started, Ticked, Advanced}
use Rattle.slots.specs.Checks.{admit_check, advance_check, leave_check, start_check, tick_check}
use Rattle.slots.specs.declared.sets.Advanced.{Advanced as ManyTicks}
use Rattle.slots.specs.declared.sets.Ticked.{Ticked as OneTick}

-- in the trace, a start of the action k by the server s was accepted, and answered the end e
pub record Began (all : Trace) (s : ℕ) (k : Action) (e : ℕ) : Type 0 where
  pub before : Trace
  pub answer : Answer
  pub arrives : clock_of before ≡ k.arrival
  pub accepts : is_ok answer ≡ true
  pub forecasts : (told answer).end ≡ e
  pub part : Begins (said before (Start s (task k.load k.limit k.period)) answer) all

-- after the trace the server s has the action k at work: no tick since its arrival has ended it
abbrev pub WorksOn : Trace → ℕ → Action → Type 0
WorksOn q s k = (e : ℕ) × Began q s k e × (ends_in q s k.arrival (clock_of q) ≡ 0)

-- the action k of the server s ended at the instant t: the tick before t is the first from its arrival on that ends it
abbrev pub Ended : Trace → ℕ → Action → ℕ → Type 0
Ended all s k t = (k.arrival < t) × (ends_in all s k.arrival (t - 1) ≡ 0) × (0 < ends_in all s k.arrival t)

-- the clock has come to the instant t, and the action k of the server s did not end before t
abbrev pub Lasts : Trace → ℕ → Action → ℕ → Type 0
Lasts all s k t = (t ≤ clock_of all) × (ends_in all s k.arrival (t - 1) ≡ 0)

-- the share of an action k that the server s began, whose start answered e
pub record ActionShare (rule : Meaning) (all : Trace) (s : ℕ) (k : Action) (e : ℕ) : Type 0 where
  -- no stretch ends with part of its amount unserved, nor with more served
  pub stretches_served : (j : ℕ) → Lasts all s k (boundary k j) → served_in all s (begins k j) (boundary k j) ≡ amount rule k j
  -- at each boundary it has been served the first amount and the limit for each full period since, or its load where that is smaller
  pub served_by_boundary : (j : ℕ) → Lasts all s k (boundary k j) → served_in all s k.arrival (boundary k j) ≡ due rule k j
  -- it ends only at the first boundary where that is its load
  pub ends_only_there : (t : ℕ) → Ended all s k t → (j : ℕ) × (t ≡ boundary k j) × (t ≤ clock_of all) × Completes rule k j
  -- and there it does end, once the clock has come so far
  pub ends_there : (j : ℕ) → boundary k j ≤ clock_of all → Completes rule k j → Ended all s k (boundary k j)
  -- from arrival to end it takes a period for each whole limit in its load, and less than one period more than one for each limit begun
  pub takes_at_least : (t : ℕ) → Ended all s k t → k.arrival + k.period * (k.load / k.limit) ≤ t
  pub takes_at_most : (t : ℕ) → Ended all s k t → t ≤ k.arrival + (k.period - 1) + k.period * ceil k.load k.limit
  -- it ends at the instant that its start answered
  pub ends_as_forecast : (t : ℕ) → Ended all s k t → t ≡ e

-- an advance by n that is accepted took one tick at the least, and no more than n
abbrev pub Leaps : ℕ → ManyTicks → Type 0
Leaps n t = (1 ≤ t.ticks) × (t.ticks ≤ n)

-- an answer of which P holds where no check fails, and else the refusal
abbrev pub Judged : Option Refusal → Type 0 → Answer → Type 0
Judged check P a = MatchOption check P (λ why. a ≡ Err why)

-- the answer a to a call is the one that its list of checks gives on what the calls before it have left
abbrev pub ByChecks : Meaning → Trace → Call → Answer → Type 0
ByChecks rule q (Admit s c) a = Judged (admit_check s c (admitted q s) (caps_held q)) (a ≡ Ok Done) a
ByChecks rule q (Leave s) a = Judged (leave_check s (admitted q s) (at_work q s)) (a ≡ Ok Done) a
ByChecks rule q (Start s asked) a =
    let k : Action = action (clock_of q) asked.load asked.limit asked.period in
    Judged (start_check rule s k (admitted q s) (at_work q s) (cap_held q s)) (a ≡ Ok (Started (forecast rule k))) a
ByChecks rule q Tick a = Judged (tick_check (clock_of q)) ((t : OneTick) × (a ≡ Ok (Ticked t))) a
ByChecks rule q (Advance n) a = Judged (advance_check n (clock_of q)) ((t : ManyTicks) × (a ≡ Ok (Advanced t)) × Leaps n t) a

-- the server s works on an action that comes to one of its boundaries, j, with the next tick, and P holds of the two
abbrev pub ComesTo : Trace → ℕ → (Action → ℕ → Type 0) → Type 0
ComesTo q s P = (k : Action) × WorksOn q s k × (j : ℕ) × (clock_of q + 1 ≡ boundary k j) × P k j

-- the law of a tick that was answered a after the trace
pub record TickShare (rule : Meaning) (q : Trace) (a : Answer) : Type 0 where
  -- it serves no server without an action at work
  pub serves_at_work : (s : ℕ) → serves s a ≡ true → (k : Action) × WorksOn q s k
  -- its late set is empty
  pub never_late : (told a).sets.late.word ≡ 0
  -- it releases exactly the servers whose action comes to a boundary with load still to be owed
  pub releases_tell : (s : ℕ) → Decides (releases s a) (ComesTo q s (λ k j. due rule k j < k.load))
  -- it ends exactly those whose action comes to the first boundary by which its whole load is owed
  pub ends_tell : (s : ℕ) → Decides (finishes s a) (ComesTo q s (Completes rule))

-- the law of a trace in single ticks
pub record Share (rule : Meaning) (all : Trace) : Type 0 where
  -- every tick keeps its law
  pub ticks : (q : Trace) (c : Call) (a : Answer) → Begins (said q c a) all → timed a ≡ true → TickShare rule q a
  -- every action has its share
  pub actions : (s : ℕ) (k : Action) (e : ℕ) → Began all s k e → ActionShare rule all s k e
  -- the caps of the servers admitted at any moment add up to the processor or less
  pub caps_fit : (q : Trace) → Begins q all → caps_held q ≤ unit
  -- every answer is the one that the lists of checks give
  pub answers_by_checks : (q : Trace) (c : Call) (a : Answer) → Begins (said q c a) all → ByChecks rule q c a

-- the law of any trace: it holds of its single ticks, and every call, an advance too, is answered as the lists of checks say
pub record Kept (rule : Meaning) (all : Trace) : Type 0 where
  pub law : Share rule (spelt all)
  pub answers_by_checks : (q : Trace) (c : Call) (a : Answer) → Begins (said q c a) all → ByChecks rule (spelt q) c a

-- the law of a list of calls and the answers to them
pub record Shares (rule : Meaning) (calls : List Call) (answers : List Answer) : Type 0 where
  pub each : length answers ≡ length calls
  pub kept : Kept rule (heard nothing calls answers)
