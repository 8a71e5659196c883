use Rattle.std.proofs.Common.{◌∙◌}
use Rattle.heaps.proofs.Orders.{laws_of}
use Rattle.heaps.proofs.Firsts.{least_first}
use Rattle.heaps.proofs.heap.Heap.least.Goals as goal

pub returns : goal.returns
returns g c = record { answer = least_first (laws_of g.met.E.Ordered.total g.met.E.Ordered.carries) c.args.self.now c.copied.result (c.copied.ensures ∙ c.first.ensures.value) }
