use Rattle.std.proofs.Common.{◌≡◌, ℕ, ◌-◌, Some, None, Ok, Option, Result}
use Rattle.board.specs.Boards.{model}
use Rattle.limits.specs.declared.refusal.Refusal.{Refusal}
use Rattle.timer_sheets.proofs.play.run_on.Goals as goal
use Rattle.timer_sheets.specs.Sheets.{next_run}
use Rattle.timer_sheets.specs.declared.line.SheetLine.TheVariants.{Run}
use Rattle.slots.specs.Advances.{advance_refusal, advanced}
use Rattle.slots.specs.Steps.{Model, judged}
use Rattle.slots.specs.declared.sets.Advanced.{Advanced}

-- a value that a list of checks let through
passed : {A : Type 0} (v : Option Refusal) (x y : A) → Ok y ≡ judged v x → y ≡ x
passed None x y e = cc
passed (Some why) x y e = cc

-- an advance up to the instant t that was accepted is the next run towards it
run_is : (m : Model) (clock t : ℕ) (answer : Result Advanced Refusal) (run : Advanced) → clock ≡ m.clock → answer ≡ judged (advance_refusal m (t - clock)) (advanced m (t - clock)) → answer ≡ Ok run → Run clock run ≡ next_run m t
run_is m clock t answer run at told ok = let is : run ≡ advanced m (t - clock) = passed (advance_refusal m (t - clock)) _ run (cc) in cc

pub returns-clause-answer : goal.returns-clause-answer
returns-clause-answer g c = run_is (model c.args.board.now) c.clock-before.result c.args.instant c.advance.result c.unwrap-run.result c.clock-before.ensures.answer c.advance.ensures.answer c.unwrap-run.ensures
