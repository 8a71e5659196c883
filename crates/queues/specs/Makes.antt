-- What the makes of a queue hold.
use Rattle.std.specs.Prelude.{◌≡◌, ◌<◌, ◌≤◌, List, length, Ok, Err, Result}
use Rattle.heaps.specs.Held.{held}
use Rattle.limits.specs.Ranges.{servers}
use Rattle.limits.specs.declared.refusal.Refusal.TheVariants.{TooLittleMemory}
use Rattle.queues.specs.Dues.{Due, Empty, Within}
use Rattle.queues.specs.Finds.{sought_within}
use Rattle.queues.specs.Lists.{sought}
use Rattle.queues.specs.declared.entry.Entry.{Entry}
use Rattle.queues.specs.declared.heap_queue.HeapQueue.{HeapQueue}
use Rattle.queues.specs.declared.heap_queue.Returned.{Returned}
use Rattle.queues.specs.declared.row.Row.{Row}

-- what a row means
abbrev pub row_due : Row → Due
row_due q = sought q.entries.items

pub row_within : (q : Row) → Within (row_due q)
row_within q = sought_within q.entries.items q.bounded

-- what a heap queue means
abbrev pub heap_due : HeapQueue → Due
heap_due q = sought (held q.heap)

pub heap_within : (q : HeapQueue) → Within (heap_due q)
heap_within q = sought_within (held q.heap) q.bounded

-- a queue without entries over lent memory; memory that has not a place for each server comes back as it was
abbrev pub Made : List Entry → Result HeapQueue Returned → Type 0
Made memory (Ok q) = (servers ≤ length memory) × Empty (heap_due q)
Made memory (Err e) = (length memory < servers) × (e.refusal ≡ TooLittleMemory) × (e.memory.now ≡ memory)
