-- What a run still has to show.
use Rattle.std.specs.Prelude.{◌≡◌, List, [], ◌∷◌, ◌++◌, Some, None, Option}
use Rattle.board.specs.Boards.{model}
use Rattle.queues.specs.declared.queue.Queue as queues
use Rattle.release.specs.declared.rule.ReleaseRule as rules
use Rattle.scripts.specs.Agendas.{coming}
use Rattle.timer_sheets.specs.Sheets.{sheet_from}
use Rattle.timer_sheets.specs.declared.line.SheetLine.{SheetLine}
use Rattle.timer_sheets.specs.declared.run.Run.{Run}
use Rattle.std.specs.Option.{option_to_list}

-- the lines still to come
abbrev pub to_come : {R X Y : Type 0} {g : rules.Ghosts R} {q : queues.Ghosts X} {c : queues.Ghosts Y} → Run R X Y g q c → List SheetLine
to_come {g = g} r = sheet_from (g.amount r.board.rule) r.plan.now (model r.board) (option_to_list r.awaited ++ coming r.agenda.now)

-- the first of the lines, and the others after it; none where there is none
abbrev pub Given : Option SheetLine → List SheetLine → List SheetLine → Type 0
Given None old new = (old ≡ []) × (new ≡ [])
Given (Some l) old new = old ≡ l ∷ new
