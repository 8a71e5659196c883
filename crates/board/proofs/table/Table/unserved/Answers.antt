use Rattle.std.proofs.Common.{◌≡◌, ◌-◌, Some, Option, ℕ, ap, ◌∙◌, arith}
use Rattle.slots.specs.Advances.{owing}
use Rattle.slots.specs.Marks.{owed}
use Rattle.board.proofs.Picks.{ready_first, ready_none}
use Rattle.board.proofs.table.Table.unserved.Goals as goal

pub returns-in-None : goal.returns-in-None
returns-in-None g c = record { answer = ap (λ (i : Option ℕ). owing c.args.self.now.slots i c.args.most) (ready_none c.args.self.now c.in-None.ensures.answer) }

pub returns-in-Some : goal.returns-in-Some
returns-in-Some g c =
    let o = c.args.self.now in
    let e = c.in-Some.e in
    let least : c.min.result ≡ owing o.slots (Some (e.server - 1)) c.args.most = omega (arith, c.min.ensures, c.unserved.ensures.answer, ap owed c.slot.ensures.answer) in
    record { answer = least ∙ ap (λ (i : Option ℕ). owing o.slots i c.args.most) (ready_first o e c.in-Some.ensures.answer (omega arith)) }
