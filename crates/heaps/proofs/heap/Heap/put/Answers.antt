use Rattle.std.proofs.Common.{◌+◌, arith, length-set, length-take-le, set}
use Rattle.heaps.proofs.Moves as moves
use Rattle.heaps.proofs.heap.Heap.put.Goals as goal

pub returns-clause-answer : goal.returns-clause-answer
returns-clause-answer g c =
    let h = c.args.self.now in
    let n = h.len in
    let x = c.args.x in
    let long = length-take-le (n + 1) (set h.places.now n x) (omega (arith, length-set h.places.now n x)) in
    (omega (arith, length-take-le h.len h.places.now), moves.put_shuffles h.places.now _ n x (omega arith) (moves.front_shuffles _ c.sift_up.new.s _ (n + 1) long c.sift_up.ensures.shuffled))
