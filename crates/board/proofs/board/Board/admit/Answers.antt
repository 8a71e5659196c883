use Rattle.std.proofs.Common.{◌≡◌, ◌-◌, ◌<◌, length, get_or, sym, ap, ◌∙◌, arith, rules}
use Rattle.slots.proofs.Starting.{admitting}
use Rattle.slots.proofs.Totals.{total_set}
use Rattle.slots.specs.Slots.{cap_of}
use Rattle.slots.specs.declared.slot.Slot.TheVariants.{Absent, Resting}
use Rattle.board.specs.Fits.{Lasting}
use Rattle.board.proofs.Judged.{cap_none, server_none}
use Rattle.board.proofs.Slotwise.{each_set}
use Rattle.board.proofs.board.Board.admit.Goals as goal

pub invariant_of-self : goal.invariant_of-self
invariant_of-self g c =
    let o = c.args.self.now in
    let xs = o.table.slots in
    let i = c.args.server - 1 in
    let v = Resting c.args.«cap» in
    let is : get_or xs i Absent ≡ Absent = sym c.slot.ensures.answer ∙ search rules in
    let range = server_none c.args.server (sym c.in_ok-check_server.ensures.answer) in
    let l : i < length xs = omega arith in
    let caps = o.caps in
    let more = total_set cap_of xs i v Absent l in
    let none = ap cap_of is in
    rw c.put.ensures.slots (record {
      early = o.early;
      caps = omega arith;
      sound = admitting o.clock xs i l o.sound c.args.«cap» is (cap_none c.args.«cap» (sym c.in_ok-check_cap.ensures.answer)).0 (omega arith);
      lasting = each_set Lasting xs i v l (omega arith, omega arith) o.lasting;
    })
