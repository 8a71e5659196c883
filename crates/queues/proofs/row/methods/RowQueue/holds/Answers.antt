use Rattle.std.proofs.Common.{◌∙◌}
use Rattle.queues.proofs.Worded.{worded_has}
use Rattle.queues.proofs.row.methods.RowQueue.holds.Goals as goal
use Rattle.queues.specs.Makes.{row_due, row_within}

pub returns : goal.returns
returns c =
    let q = c.args.self.now in
    record { answer = c.contains.ensures.answer ∙ worded_has (row_due q) q.held c.args.server (row_within q) q.word }
