use Rattle.queues.proofs.Sought.{empty_list}
use Rattle.queues.proofs.row.Row.new.Goals as goal
use Rattle.std.proofs.Common.{length, ap, arith}

pub invariant_of-result : goal.invariant_of-result
invariant_of-result c =
    let none = empty_list c.new.result.items c.new.ensures in
    record { falls = λ i j d l m. absurd (omega (arith, ap length c.new.ensures)); apart = none.0; bounded = none.1; word = none.2 }
