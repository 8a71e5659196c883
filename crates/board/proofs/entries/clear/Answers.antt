use Rattle.std.proofs.Common.{sym, arith}
use Rattle.queues.proofs.Counts.{size_more}
use Rattle.board.proofs.entries.clear.Goals as goal

pub loop-e-smaller : goal.loop-e-smaller
loop-e-smaller g c =
    let due = g.Q.Queue.due in
    let e = c.in-Some._e in
    let p = c.in-Some.ensures in
    let b = g.Q.Queue.within c.loop-e.queue e.server e.instant p.answer.0 in
    let more = size_more 65 (due c.take.new.self) (due c.loop-e.queue) e.server e.instant (omega arith) p.after.0 p.answer.0 (λ k u. sym (p.after.1 k u)) in
    omega arith
