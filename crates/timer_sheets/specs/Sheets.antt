-- The sheet of a plan and a script: each call with its answer, and the runs of ticks between them.
use Rattle.std.specs.Prelude.{ℕ, zero, suc, ◌-◌, cond, List, [], ◌∷◌, ◌++◌, Some, None, Err, Option, Result, nat_lt}
use Rattle.limits.specs.declared.refusal.Refusal.{Refusal}
use Rattle.limits.specs.declared.refusal.Refusal.TheVariants.{NotInPlan}
use Rattle.plans.specs.Reads.{action_of, server_of}
use Rattle.plans.specs.declared.plan.Plan.{Plan}
use Rattle.release.specs.Actions.{Meaning}
use Rattle.scripts.specs.Dues.{time_order}
use Rattle.scripts.specs.declared.line.Command.{Command}
use Rattle.scripts.specs.declared.line.Command.TheVariants.{Admit, Leave, Start, Wait}
use Rattle.scripts.specs.declared.line.Line.{Line}
use Rattle.timer_sheets.specs.declared.line.SheetLine.{SheetLine}
use Rattle.timer_sheets.specs.declared.line.SheetLine.TheVariants.{Admit as Admits, Leave as Leaves, Start as Starts, Run as Runs}
use Rattle.slots.specs.Advances.{leapt, span, turns}
use Rattle.slots.specs.Steps.{Model, admit_after, admit_refusal, arriving, fresh, judged, leave_after, leave_refusal, start_after, start_answer}
use Rattle.std.specs.Option.{option_to_list}

-- what a call is answered: refused where the plan lacks what the line names, else answered by the board
abbrev pub in_plan : {X A : Type 0} → Option X → (X → Result A Refusal) → Result A Refusal
in_plan None answer = Err NotInPlan
in_plan (Some x) answer = answer x

-- what a call leaves: the board as it was where the plan lacks what the line names
abbrev pub from_plan : {X : Type 0} → Model → Option X → (X → Model) → Model
from_plan m None left = m
from_plan m (Some x) left = left x

-- the line that a command at the instant t shows on the board m; a wait shows none
abbrev pub shown : Meaning → Plan → Model → ℕ → Command → Option SheetLine
shown rule p m t (Admit s) = Some (Admits t s (in_plan (server_of p s) (λ v. judged (admit_refusal m s v.cap) tt)))
shown rule p m t (Leave s) = Some (Leaves t s (judged (leave_refusal m s) tt))
shown rule p m t (Start s a) = Some (Starts t s a (in_plan (action_of p s a) (λ k. start_answer rule m s (arriving m k.task.load k.task.limit k.task.period))))
shown rule p m t Wait = None

-- what the command leaves of the board m
abbrev pub left_by : Meaning → Plan → Model → Command → Model
left_by rule p m (Admit s) = from_plan m (server_of p s) (λ v. admit_after m s v.cap)
left_by rule p m (Leave s) = leave_after m s
left_by rule p m (Start s a) = from_plan m (action_of p s a) (λ k. start_after rule m s (arriving m k.task.load k.task.limit k.task.period))
left_by rule p m Wait = m

-- how many ticks the next run towards the instant t makes: those of an advance by the ticks left
abbrev pub stride : Model → ℕ → ℕ
stride m t = span m (t - m.clock)

abbrev pub next_run : Model → ℕ → SheetLine
next_run m t = Runs m.clock (leapt m (stride m t))

-- the runs that bring the board m to the instant t, up to n of them
abbrev pub runs : ℕ → ℕ → Model → List SheetLine
runs zero t m = []
runs (suc n) t m = cond (nat_lt m.clock t) (next_run m t ∷ runs n t (turns (stride m t) m)) []

-- the lines of a script in time order, from the board m on: the runs to each line's instant, and then its call on the
-- board as it is there
abbrev pub sheet_from : Meaning → Plan → Model → List Line → List SheetLine
sheet_from rule p m [] = []
sheet_from rule p m (l ∷ ls) =
    let t = l.instant in
    let z = turns (t - m.clock) m in
    runs (t - m.clock) t m ++ (option_to_list (shown rule p z t l.command) ++ sheet_from rule p (left_by rule p z l.command) ls)

-- the sheet of a plan and of a script's lines, on a new board
abbrev pub sheet : Meaning → Plan → List Line → List SheetLine
sheet rule p ls = sheet_from rule p fresh (time_order ls)
