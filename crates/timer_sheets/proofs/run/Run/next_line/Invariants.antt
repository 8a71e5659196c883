use Rattle.scripts.specs.Agendas.{coming}
use Rattle.timer_sheets.proofs.run.Run.next_line.Given as goal
use Rattle.timer_sheets.specs.Runs.{to_come}
use Rattle.std.specs.Option.{option_to_list}
use Rattle.std.proofs.Common.{◌≡◌, ◌++◌, length}

abbrev pub invariant-loop-self : goal.invariant-loop-self
invariant-loop-self g l = to_come l.self ≡ to_come l.initial.self

abbrev pub decreases-loop-self : goal.decreases-loop-self
decreases-loop-self g l = length (option_to_list l.self.awaited ++ coming l.self.agenda.now)
