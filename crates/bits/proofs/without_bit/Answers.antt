use Rattle.bits.proofs.Bits.{bit_high, clear_here, clear_other}
use Rattle.bits.proofs.without_bit.Goals as goal
use Rattle.std.proofs.Common.{refl, arith}

pub returns-then-i-lt64-clause-answer : goal.returns-then-i-lt64-clause-answer
returns-then-i-lt64-clause-answer c =
    let x = c.args.x in
    let i = c.args.i in
    let small = c.if-i-lt64.true in
    record { here = clear_here x i small; others = λ j ne. clear_other x i j (omega arith) small ne }

pub returns-else-i-lt64-clause-answer : goal.returns-else-i-lt64-clause-answer
returns-else-i-lt64-clause-answer c =
    let x = c.args.x in
    let i = c.args.i in
    record { here = bit_high 64 x i (omega arith) c.if-i-lt64.false; others = λ j ne. refl }
