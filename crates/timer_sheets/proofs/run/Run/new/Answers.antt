use Rattle.release.specs.Actions.{Meaning}
use Rattle.scripts.specs.Agendas.{coming}
use Rattle.share.specs.Share.{Kept}
use Rattle.share.specs.Traces.{nothing}
use Rattle.timer_sheets.proofs.Calls.{sheet_kept}
use Rattle.timer_sheets.proofs.run.Run.new.Goals as goal
use Rattle.timer_sheets.specs.Calls.{shown_after}
use Rattle.timer_sheets.specs.Sheets.{sheet_from}
use Rattle.timer_sheets.specs.declared.line.SheetLine.{SheetLine}
use Rattle.slots.specs.Steps.{fresh}
use Rattle.board.specs.Boards.{model}
use Rattle.std.specs.Option.{option_to_list}
use Rattle.std.proofs.Common.{◌≡◌, List, ◌++◌, sym, subst, rules}

pub returns-clause-law : goal.returns-clause-law
returns-clause-law g c =
    let agenda = c.args.agenda.now in
    let plan = c.args.plan.now in
    let rule : Meaning = g.R.ReleaseRule.amount c.args.rule in
    let come : sheet_from (g.R.ReleaseRule.amount c.new.result.rule) plan (model c.new.result) (option_to_list c.next-awaited.result ++ coming c.next-awaited.new.self) ≡ sheet_from rule plan fresh (coming agenda) = search rules in
    subst (λ (ls : List SheetLine). Kept rule (shown_after plan nothing ls)) (sym come) (sheet_kept rule (g.met.R.ReleaseRule.share c.args.rule) plan (coming agenda) c.requires.early)
