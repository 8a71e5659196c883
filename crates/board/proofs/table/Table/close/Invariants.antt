use Rattle.std.proofs.Common.{◌≡◌, length}
use Rattle.slots.specs.Slots.{total}
use Rattle.board.proofs.Loops.{Midway, ending}
use Rattle.board.proofs.table.Table.close.Given as goal

abbrev pub invariant-loop-e : goal.invariant-loop-e
invariant-loop-e g l = record { sized : length l.self.slots ≡ 64; midway : Midway l.instant l.initial.self.slots l.self.slots l.released.word l.ended.word }

abbrev pub decreases-loop-e : goal.decreases-loop-e
decreases-loop-e g l = total (ending l.instant) l.self.slots
