use Rattle.std.proofs.Common.{◌-◌, List, length, ap, ◌∙◌}
use Rattle.queues.proofs.Standing.{last_first}
use Rattle.queues.proofs.row.methods.RowQueue.least.Goals as goal
use Rattle.queues.specs.declared.entry.Entry.{Entry}
use Rattle.std.specs.Prelude.{slice_get}

pub returns : goal.returns
returns c =
    let same = ap (λ (xs : List Entry). slice_get xs (length xs - 1)) c.deref.ensures.0 in
    record { answer = last_first c.args.self.now c.copied.result (c.copied.ensures ∙ c.last.ensures.value ∙ same) }
