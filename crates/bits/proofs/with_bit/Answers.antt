use Rattle.bits.proofs.Bits.{set_here, set_other}
use Rattle.bits.proofs.with_bit.Goals as goal
use Rattle.std.proofs.Common.{arith}

pub returns-then-i-lt64 : goal.returns-then-i-lt64
returns-then-i-lt64 c =
    let x = c.args.x in
    let i = c.args.i in
    let small = c.if-i-lt64.true in
    record { answer = record { here = λ _. set_here x i small; others = λ j ne. set_other x i j small ne; stays = λ high. absurd (omega arith) } }
