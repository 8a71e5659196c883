use Rattle.std.proofs.Common.{◌≡◌, ltb, length, Some, None, ap, ◌∙◌, arith}
use Rattle.std.proofs.lemmas.Bool.{cond-true, lt-ltb}
use Rattle.board.specs.Fits.{end_at, wait_at}
use Rattle.board.proofs.Ties.{tells_put}
use Rattle.board.proofs.table.Table.put.Goals as goal

pub invariant_of-self : goal.invariant_of-self
invariant_of-self g c =
    let o = c.args.self.now in
    let n : length o.slots ≡ 64 = omega arith in
    let w = c.in-Working.work in
    let waits = ap wait_at c.in-Working.is ∙ cond-true (ltb 0 w.unserved) (Some w.end) None (lt-ltb 0 w.unserved c.if-work-gt0.true) in
    record {
      waiting = tells_put wait_at o.slots (g.Q.Queue.due o.ready) (g.Q.Queue.due c.enter-then-work-gt0.new.queue) o.waiting n c.args.server c.requires.server c.args.slot w.end waits c.enter-then-work-gt0.ensures.after;
      working = tells_put end_at o.slots (g.C.Queue.due o.calendar) (g.C.Queue.due c.enter.new.queue) o.working n c.args.server c.requires.server c.args.slot w.end (ap end_at c.in-Working.is) c.enter.ensures.after;
    }
