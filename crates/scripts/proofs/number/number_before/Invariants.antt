use Rattle.scripts.proofs.Numbers.{Reading}
use Rattle.scripts.proofs.number.number_before.Given as goal

abbrev pub invariant-loop-i : goal.invariant-loop-i
invariant-loop-i l = Reading l.text l.most l.i l.value
