use Rattle.board.specs.Boards.{model}
use Rattle.scripts.specs.Agendas.{coming}
use Rattle.timer_sheets.proofs.Lines.{run_comes}
use Rattle.timer_sheets.proofs.run.Run.next_line.Goals as goal
use Rattle.std.proofs.Common.{ap, sym, ◌∙◌}

pub returns-then-clock-line : goal.returns-then-clock-line
returns-then-clock-line g c =
    let r = c.loop-self.self in
    let ran = c.run_on.ensures in
    let next = run_comes (g.R.ReleaseRule.amount r.board.rule) (g.R.ReleaseRule.amount c.run_on.new.board.rule) r.plan.now (model r.board) (model c.run_on.new.board) r.awaited c.in-Some.line (coming r.agenda.now) c.clock.result c.run_on.result
    r.board.sound r.early c.in-Some.is c.clock.ensures.answer c.if-clock-line.true ran.answer ran.after (ap g.R.ReleaseRule.amount ran.rule) in
    record { answer = sym c.loop-self.invariant ∙ next }
