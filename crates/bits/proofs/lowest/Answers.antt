use Rattle.bits.proofs.Bits.{trailing_lowest}
use Rattle.bits.proofs.lowest.Goals as goal
use Rattle.std.proofs.Common.{arith}

pub returns : goal.returns
returns c = record { answer = trailing_lowest 64 c.args.x (omega arith) (omega arith) }
