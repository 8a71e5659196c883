use Rattle.windows.proofs.Steps.{near_first, near_none}
use Rattle.windows.proofs.marks.Marks.least.Goals as goal
use Rattle.windows.specs.Marked.{Parts}

pub returns-in_err-offset-clause-answer : goal.returns-in_err-offset-clause-answer
returns-in_err-offset-clause-answer c =
    let m : Parts = record { base = c.self.inside.base; sets = c.self.inside.sets; summary = c.self.inside.summary; held = c.self.inside.held } in
    rw c.from_residual.ensures (near_none c.args.self.now m c.self.view_is c.self.invariant c.in_err-offset.ensures.answer)

pub returns-clause-answer : goal.returns-clause-answer
returns-clause-answer c =
    let m : Parts = record { base = c.self.inside.base; sets = c.self.inside.sets; summary = c.self.inside.summary; held = c.self.inside.held } in
    let low = c.in_ok-offset.ensures.answer in
    near_first c.args.self.now m c.self.view_is c.self.invariant c.in_ok-offset.offset c.in_ok-server.server low.0 low.1 c.in_ok-server.ensures.answer
