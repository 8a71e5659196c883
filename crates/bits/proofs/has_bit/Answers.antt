use Rattle.bits.proofs.Bits.{bit_high, bit_shift}
use Rattle.bits.proofs.has_bit.Goals as goal
use Rattle.std.proofs.lemmas.Bool.{le-ltb, ne_eqb}
use Rattle.std.proofs.Common.{eqb, sym, ap, ◌∙◌, arith}

pub returns-then-i-lt64 : goal.returns-then-i-lt64
returns-then-i-lt64 c = record { answer = ap (λ b. eqb b 1) (sym (bit_shift c.args.i c.args.x)) }

pub returns-else-i-lt64 : goal.returns-else-i-lt64
returns-else-i-lt64 c =
    let none = bit_high 64 c.args.x c.args.i (omega arith) c.if-i-lt64.false in
    record { answer = le-ltb c.args.i 64 c.if-i-lt64.false ∙ sym (ne_eqb _ 1 (λ e. omega arith)) }
