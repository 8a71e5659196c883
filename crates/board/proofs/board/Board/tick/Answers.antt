use Rattle.board.proofs.Advancing.{leapt_punctual, leapt_works}
use Rattle.board.specs.Boards.{model}
use Rattle.board.proofs.board.Board.tick.Goals as goal

pub returns-clause-punctual : goal.returns-clause-punctual
returns-clause-punctual g c = let o = c.args.self.now in leapt_punctual (model o) o.sound 1 c.pass-run.result c.pass-run.ensures.answer

pub returns-clause-at_work : goal.returns-clause-at_work
returns-clause-at_work g c = let o = c.args.self.now in leapt_works (model o) o.sound 1 c.pass-run.result c.pass-run.ensures.answer
