use Rattle.std.proofs.Common.{refl}
use Rattle.board.specs.Fits.{end_at, wait_at}
use Rattle.board.proofs.Ties.{tells_none}
use Rattle.board.proofs.table.Table.new.Goals as goal

pub invariant_of-result : goal.invariant_of-result
invariant_of-result g c = record {
  waiting = tells_none wait_at refl 64 (g.Q.Queue.due c.clear.new.queue) c.clear.ensures.after;
  working = tells_none end_at refl 64 (g.C.Queue.due c.clear-2.new.queue) c.clear-2.ensures.after;
}
