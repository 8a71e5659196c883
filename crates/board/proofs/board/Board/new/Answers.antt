use Rattle.std.proofs.Common.{refl, arith}
use Rattle.slots.proofs.Beginning.{beginning}
use Rattle.board.proofs.Ties.{absent_all}
use Rattle.board.proofs.board.Board.new.Goals as goal

pub invariant_of-result : goal.invariant_of-result
invariant_of-result g c = rw c.new.ensures.slots (record { early = omega arith; caps = refl; sound = beginning 0 64; lasting = λ i. rw (absent_all 64 i) (omega arith, omega arith) })
