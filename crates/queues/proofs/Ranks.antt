-- The order of entries as an order of numbers.
use Rattle.std.proofs.Common.{◌≡◌, ◌<◌, ◌≤◌, true, false, ◌≢◌, arith}
use Rattle.queues.specs.Entries.{entry_order}
use Rattle.queues.specs.Rows.{rank}
use Rattle.queues.specs.declared.entry.Entry.{Entry}
use Rattle.std.proofs.lemmas.Bool.Decides.{nat_tests}

-- an entry at or before another has no greater rank
pub order_true : (a b : Entry) → a.server < 256 → entry_order a b ≡ true → rank a ≤ rank b
order_true a b small e = grind (arith, nat_tests)

-- and one that is not has a greater rank
pub order_false : (a b : Entry) → b.server < 256 → entry_order a b ≡ false → rank b < rank a
order_false a b small e = grind (arith, nat_tests)

-- one of no greater rank is at or before
pub rank_order : (a b : Entry) → b.server < 256 → rank a ≤ rank b → entry_order a b ≡ true
rank_order a b small le = grind (arith, nat_tests)

-- what is at or before an entry is so before one of greater rank
pub order_carries : (a b c : Entry) → rank b < rank c → b.server < 256 → c.server < 256 → entry_order a b ≡ true → entry_order a c ≡ true
order_carries a b c lt small small' e = grind (arith, nat_tests)

-- entries of two servers never have the same rank
pub rank_apart : (a b : Entry) → a.server < 256 → b.server < 256 → a.server ≢ b.server → rank a ≤ rank b → rank a < rank b
rank_apart a b p q ne le = grind arith
