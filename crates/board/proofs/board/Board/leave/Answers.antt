use Rattle.std.proofs.Common.{◌-◌, ◌<◌, length, get_or, ap, arith, sym}
use Rattle.slots.proofs.Starting.{leaving}
use Rattle.slots.proofs.Totals.{total_set}
use Rattle.slots.specs.Slots.{cap_of}
use Rattle.slots.specs.declared.slot.Slot.TheVariants.{Absent}
use Rattle.board.specs.Fits.{Lasting}
use Rattle.board.proofs.Judged.{server_none}
use Rattle.board.proofs.Slotwise.{cap_of_le, each_set, resting_is}
use Rattle.board.proofs.board.Board.leave.Goals as goal

pub overflow_sub-self : goal.overflow_sub-self
overflow_sub-self g c =
    let o = c.args.self.now in
    let rests = resting_is (get_or o.table.slots (c.args.server - 1) Absent) c.in_ok-cap.«cap» c.in_ok-cap.ensures.answer in
    let caps = o.caps in
    omega (arith, cap_of_le o.table.slots (c.args.server - 1), ap cap_of rests)

pub invariant_of-self : goal.invariant_of-self
invariant_of-self g c =
    let o = c.args.self.now in
    let xs = o.table.slots in
    let i = c.args.server - 1 in
    let is = resting_is (get_or xs i Absent) c.in_ok-cap.«cap» c.in_ok-cap.ensures.answer in
    let range = server_none c.args.server (sym c.in_ok-check_server.ensures.answer) in
    let l : i < length xs = omega arith in
    let caps = o.caps in
    let less = total_set cap_of xs i Absent Absent l in
    let held = ap cap_of is in
    rw c.put.ensures.slots (record {
      early = o.early;
      caps = omega arith;
      sound = leaving o.clock xs i l o.sound c.in_ok-cap.«cap» is;
      lasting = each_set Lasting xs i Absent l (omega arith, omega arith) o.lasting;
    })
