use Rattle.std.proofs.Common.{vec_items, ap}
use Rattle.board.specs.Boards.{model}
use Rattle.share.proofs.Keeping.{all_answered}
use Rattle.share.proofs.playing.play.Goals as goal

pub returns-clause-law : goal.returns-clause-law
returns-clause-law g c =
    let rule = g.R.ReleaseRule.amount in
    all_answered (rule c.args.rule) (rule c.new-board.result.rule) (g.met.R.ReleaseRule.share c.args.rule) (model c.loop-call.board) c.args.calls.now c.loop-call.call-index (vec_items c.loop-call.answers)
    c.loop-call-test.false (ap rule c.new-board.ensures.rule) c.loop-call.invariant.1
