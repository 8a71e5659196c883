use Rattle.std.proofs.Common.{ℕ, ap, ◌∙◌}
use Rattle.slots.specs.Advances.{owing, span, until_end_of}
use Rattle.slots.specs.Slots.{pick}
use Rattle.board.proofs.board.Board.reach.Goals as goal

pub returns : goal.returns
unfolding span
returns g c =
    let o = c.args.self.now in
    let xs = o.table.slots in
    let until = c.until_end.ensures.answer ∙ ap (until_end_of o.clock xs) c.min-most.ensures in
    record { answer = c.unserved.ensures.answer ∙ ap (λ (n : ℕ). owing xs (pick xs) n) until }
