-- Queues that hold the same are the same.
use Rattle.std.proofs.Common.{◌≡◌, ◌≤◌}
use Rattle.heaps.specs.Held.{held, room}
use Rattle.limits.specs.Ranges.{servers}
use Rattle.queues.specs.Entries.{Proper}
use Rattle.queues.specs.Lists.{Distinct, sought}
use Rattle.queues.specs.Words.{Worded}
use Rattle.queues.specs.declared.heap_queue.HeapQueue.{HeapQueue}
use Rattle.std.proofs.Props.{props}
use Rattle.std.specs.List.{AllByRecursion}
use mathlib.Core.HLevel.{is_prop→PathP}

pub same_queue : (a b : HeapQueue) → a.heap ≡ b.heap → a.held ≡ b.held → a ≡ b
same_queue a b e f = λ i. record {
  heap = e i;
  held = f i;
  long = is_prop→PathP (λ j. servers ≤ room (e j)) (λ j. hlevel props) a.long b.long i;
  apart = is_prop→PathP (λ j. Distinct (held (e j))) (λ j. hlevel props) a.apart b.apart i;
  bounded = is_prop→PathP (λ j. AllByRecursion Proper (held (e j))) (λ j. hlevel props) a.bounded b.bounded i;
  word = is_prop→PathP (λ j. Worded (sought (held (e j))) (f j).word) (λ j. hlevel props) a.word b.word i;
}
