-- The first entry of a list.
use Rattle.std.proofs.Common.{◌≡◌, ℕ, ◌<◌, true, List, [], ◌∷◌, length, Some, None, Ok, Err, Option, Result, ap, arith}
use Rattle.heaps.specs.Answers as heap
use Rattle.heaps.specs.Held.{Leads, held, room}
use Rattle.heaps.specs.declared.heap.Heap.{Heap}
use Rattle.heaps.specs.declared.order.Ordered as ordered
use Rattle.limits.specs.declared.refusal.Refusal.{Refusal}
use Rattle.queues.proofs.Checked.{passed}
use Rattle.queues.proofs.Sought.{has_some, room_left}
use Rattle.queues.specs.Checks.{put_check}
use Rattle.queues.specs.Dues.{Before, First}
use Rattle.queues.specs.Entries.{entry_order}
use Rattle.queues.specs.Finds.{some_has}
use Rattle.queues.specs.Lists.{Distinct, sought}
use Rattle.queues.specs.Makes.{heap_due}
use Rattle.queues.specs.declared.entry.Entry.{Entry}
use Rattle.queues.specs.declared.heap_queue.HeapQueue.{HeapQueue}
use Rattle.std.proofs.ByRecursion.{all-has}
use Rattle.std.proofs.lemmas.Bool.Decides.{nat_tests}
use Rattle.std.specs.List.Sorted.{IsPermutation}
use Rattle.std.specs.List.{ContainsAt as Has}

-- the order of entries, as the meaning of a queue has it
order_before : (x : Entry) (t k : ℕ) → entry_order x (record { instant = t; server = k }) ≡ true → Before x t k
order_before x t k p = (grind (arith, nat_tests), λ e. grind (arith, nat_tests))

-- an entry that is at or before each is the first
pub first_some : (xs : List Entry) (x : Entry) → Distinct xs → Has xs x → Leads entry_order x xs → First (sought xs) (Some x)
first_some xs x d h all = (
  has_some xs x d h,
  λ k t e. order_before x t k (all-has (λ y. entry_order x y ≡ true) xs (record { instant = t; server = k }) all (some_has xs k t e)),
)

-- no entry is the first of none
pub first_none : (xs : List Entry) → xs ≡ [] → First (sought xs) None
first_none xs e = λ k. ap (λ (l : List Entry). sought l k) e

-- what a heap gives as its least
pub first_least : (q : HeapQueue) (r : Option Entry) → Distinct (held q.heap) → heap.Least q.heap r → First (heap_due q) r
first_least q None d l = first_none (held q.heap) l
first_least q (Some x) d l = first_some (held q.heap) x d l.1 l.0

-- a heap that is not full takes the entry
put_some : {g : ordered.Ghosts Entry} (x : Entry) (old new : Heap Entry g) (r : Result (Unit {0}) Refusal) → heap.Put x old new r → length (held old) < room old → IsPermutation (x ∷ held old) (held new)
put_some x old new (Ok u) p l = p.1
put_some x old new (Err e) p l = absurd (omega (arith, p.1))

-- as a heap queue's is, where the entry passes the checks
pub entered : (q : HeapQueue) (x : Entry) (new : _) (r : Result (Unit {0}) Refusal) → put_check (heap_due q) x.server x.instant ≡ None → heap.Put x q.heap new r → IsPermutation (x ∷ held q.heap) (held new)
entered q x new r checked p =
    let ok = passed (heap_due q) x.server x.instant checked in
    let few = room_left (held q.heap) x.server q.apart q.bounded ok.0 ok.1 ok.3 in
    put_some x q.heap new r p (omega (arith, q.long))
