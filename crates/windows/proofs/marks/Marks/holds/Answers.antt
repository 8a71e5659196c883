use Rattle.queues.proofs.Worded.{worded_has}
use Rattle.std.proofs.Common.{◌∙◌}
use Rattle.windows.proofs.marks.Marks.holds.Goals as goal
use Rattle.windows.specs.Marked.{Parts, marked_within, near}

pub returns : goal.returns
returns c =
    let m : Parts = record { base = c.self.inside.base; sets = c.self.inside.sets; summary = c.self.inside.summary; held = c.self.inside.held } in
    let s = c.args.server in
    rw (← c.self.view_is) (record { answer = c.contains.ensures.answer ∙ worded_has (near m) m.held s (marked_within m.sets m.base c.self.invariant.placed) c.self.invariant.gathered })
