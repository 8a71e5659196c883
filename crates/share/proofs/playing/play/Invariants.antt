use Rattle.board.specs.Boards.{model}
use Rattle.share.proofs.playing.play.Given as goal
use Rattle.share.specs.Plays.{answers_of}
use Rattle.slots.specs.Steps.{fresh}
use Rattle.std.proofs.Common.{◌≡◌, ◌++◌, drop, vec_items}

-- the answers so far and those to come are the answers to all
abbrev pub invariant-loop-call : goal.invariant-loop-call
invariant-loop-call g l =
    let rule = g.R.ReleaseRule.amount l.initial.board.rule in
    (l.board.rule ≡ l.initial.board.rule) × (vec_items l.answers ++ answers_of rule (model l.board) (drop l.call-index l.calls) ≡ answers_of rule fresh l.calls)
