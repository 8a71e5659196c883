-- The calls of a board that a sheet shows, with their answers.
use Rattle.plans.specs.Reads.{action_of, server_of}
use Rattle.plans.specs.declared.plan.Plan.{Plan}
use Rattle.share.specs.Answers.{Answer}
use Rattle.share.specs.Plays.{spoken}
use Rattle.share.specs.Traces.{Trace, said}
use Rattle.share.specs.declared.calls.Call.{Call}
use Rattle.share.specs.declared.calls.Call.TheVariants.{Admit, Leave, Start, Advance}
use Rattle.share.specs.declared.calls.Outcome.TheVariants.{Done, Started, Advanced}
use Rattle.timer_sheets.specs.declared.line.SheetLine.{SheetLine}
use Rattle.timer_sheets.specs.declared.line.SheetLine.TheVariants.{Admit as Admits, Leave as Leaves, Start as Starts, Run as Runs}
use Rattle.std.specs.Option.{option_map}
use Rattle.std.specs.Prelude.{List, [], ◌∷◌, Some, None, Ok, Option}

-- The call that a line shows, and its answer. The plan says which cap or action it asked for; where the plan has none, no
-- board was called. A run of k ticks is an advance by k.
abbrev pub call_shown : Plan → SheetLine → Option (Call × Answer)
call_shown p (Admits t s r) = option_map (λ v. (Admit s v.cap, spoken (λ _. Done) r)) (server_of p s)
call_shown p (Leaves t s r) = Some (Leave s, spoken (λ _. Done) r)
call_shown p (Starts t s a r) = option_map (λ k. (Start s k.task, spoken Started r)) (action_of p s a)
call_shown p (Runs t a) = Some (Advance a.ticks, Ok (Advanced a))

-- one call more, if there is one
abbrev pub said_too : Trace → Option (Call × Answer) → Trace
said_too q None = q
said_too q (Some x) = said q x.0 x.1

-- the calls that the lines show, after q
abbrev pub shown_after : Plan → Trace → List SheetLine → Trace
shown_after p q [] = q
shown_after p q (l ∷ ls) = shown_after p (said_too q (call_shown p l)) ls
