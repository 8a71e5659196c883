use Rattle.std.proofs.Common.{arith}
use Rattle.board.proofs.Loops.{midway_sets, midway_slots, midway_start}
use Rattle.board.proofs.Turns.{Turned, over_first, over_none, turned}
use Rattle.board.proofs.table.Table.close.Goals as goal
use Rattle.board.proofs.table.Table.close.Goals.{After-close_first}

-- what one turn does
turn : (g : _) (c : After-close_first g) → Turned c.args.instant c.args.self.now.slots c.loop-e.self.slots c.loop-e.released.word c.loop-e.ended.word c.in-Some.e.server c.close_first.new.self.slots c.close_first.result
turn g c =
    turned c.loop-e.self c.args.instant c.args.self.now.slots c.loop-e.released.word c.loop-e.ended.word c.requires c.loop-e.invariant.midway c.in-Some.e c.in-Some.ensures.answer c.if-e-instant.false c.loop-e.invariant.sized
    c.close_first.new.self.slots c.close_first.ensures.slots c.close_first.result c.close_first.ensures.answer

pub loop-e-init : goal.loop-e-init
loop-e-init g c = record { sized = omega arith; midway = midway_start c.args.instant c.args.self.now.slots }

pub unreachable-requires : goal.unreachable-requires
unreachable-requires g c = (turn g (goal.at.unreachable-requires g c).After-close_first).told c.in-Nothing.is

pub loop-e-smaller-in-Rests : goal.loop-e-smaller-in-Rests
loop-e-smaller-in-Rests g c = (turn g (goal.at.loop-e-smaller-in-Rests g c).After-close_first).less

pub loop-e-smaller : goal.loop-e-smaller
loop-e-smaller g c = (turn g (goal.at.loop-e-smaller g c).After-close_first).less

pub loop-e-preserved-in-Rests : goal.loop-e-preserved-in-Rests
loop-e-preserved-in-Rests g c = let z = turn g (goal.at.loop-e-preserved-in-Rests g c).After-close_first in record { sized = z.sized; midway = z.rests c.in-Rests.is c.insert.new.self.word c.insert.ensures.server }

pub loop-e-preserved : goal.loop-e-preserved
loop-e-preserved g c = let z = turn g (goal.at.loop-e-preserved g c).After-close_first in record { sized = z.sized; midway = z.next c.in-Next._end c.in-Next.is c.insert-in-Next.new.self.word c.insert-in-Next.ensures.server }

pub returns-then-e-instant : goal.returns-then-e-instant
returns-then-e-instant g c =
    let off = over_first c.loop-e.self c.args.instant c.in-Some.e c.in-Some.ensures.answer c.if-e-instant.true in
    record {
      answer = midway_sets c.args.instant c.args.self.now.slots c.loop-e.self.slots c.loop-e.released.word c.loop-e.ended.word c.requires c.loop-e.invariant.midway off;
      slots = midway_slots c.args.instant c.args.self.now.slots c.loop-e.self.slots c.loop-e.released.word c.loop-e.ended.word c.requires c.loop-e.invariant.midway off (omega arith);
    }

pub returns-in_default : goal.returns-in_default
returns-in_default g c =
    let off = over_none c.loop-e.self c.args.instant c.in_default.ensures.answer in
    record {
      answer = midway_sets c.args.instant c.args.self.now.slots c.loop-e.self.slots c.loop-e.released.word c.loop-e.ended.word c.requires c.loop-e.invariant.midway off;
      slots = midway_slots c.args.instant c.args.self.now.slots c.loop-e.self.slots c.loop-e.released.word c.loop-e.ended.word c.requires c.loop-e.invariant.midway off (omega arith);
    }
