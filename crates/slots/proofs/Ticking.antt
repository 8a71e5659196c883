-- A tick keeps the invariant.
use Rattle.std.proofs.Common.{ℕ, ◌+◌, List, arith}
use Rattle.slots.specs.declared.slot.Slot.{Slot}
use Rattle.slots.specs.Slots.{cap_of, pick, serve, closed, tick, Sound}
use Rattle.slots.proofs.Totals.{total_map_same}
use Rattle.slots.proofs.Picking.{pick_tells}
use Rattle.slots.proofs.Service.{serve_bound, served_each, served_caps}
use Rattle.slots.proofs.Closing.{all_closed, closed_cap_of, closed_bound}

pub ticking : (t : ℕ) (xs : List Slot) → Sound t xs → Sound (t + 1) (tick t xs)
ticking t xs s =
    let fine = served_each t xs (pick xs) (pick_tells xs) s.each in
    record {
      caps = let a = total_map_same cap_of (closed (t + 1)) (closed_cap_of (t + 1)) (serve xs) in let b = served_caps xs (pick xs) (pick_tells xs) in let c = s.caps in omega arith;
      each = all_closed t (serve xs) fine;
      bound = closed_bound t (serve xs) fine (serve_bound t xs s);
    }
