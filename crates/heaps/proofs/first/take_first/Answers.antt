use Rattle.heaps.proofs.Firsts.{taken_first}
use Rattle.heaps.proofs.Orders.{laws_of}
use Rattle.heaps.proofs.first.take_first.Goals as goal

pub returns-clause-answer : goal.returns-clause-answer
returns-clause-answer g c =
    taken_first (laws_of g.met.E.Ordered.total g.met.E.Ordered.carries) g.met.E.Strict.same c.args.heap.now c.take.new.self c.take.result c.take.ensures.answer
