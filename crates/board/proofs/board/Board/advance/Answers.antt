use Rattle.std.proofs.Common.{Ok, Option, sym, ap, ◌∙◌, subst, arith}
use Rattle.limits.specs.declared.refusal.Refusal.{Refusal}
use Rattle.slots.specs.Advances.{Largest, advanced, leapt}
use Rattle.slots.specs.Steps.{judged}
use Rattle.slots.specs.declared.sets.Advanced.{Advanced}
use Rattle.board.specs.Boards.{model}
use Rattle.board.proofs.Advancing.{advance_allowed, advance_largest, leapt_punctual, leapt_works}
use Rattle.board.proofs.Judged.{advance_accepted}
use Rattle.board.proofs.board.Board.advance.Goals as goal

pub pass-requires : goal.pass-requires
pass-requires g c = let o = c.args.self.now in advance_allowed (model o) c.args.count c.reach-ticks.result c.reach-ticks.ensures.answer o.sound (omega arith) (omega arith)

pub returns-clause-answer : goal.returns-clause-answer
returns-clause-answer g c =
    let m = model c.args.self.now in
    let n = c.args.count in
    let ok = advance_accepted m n (omega arith) (omega arith) (omega arith) in
    ap (λ (a : Advanced). Ok a) (c.pass.ensures.answer ∙ ap (leapt m) c.reach-ticks.ensures.answer) ∙ sym (ap (λ (w : Option Refusal). judged w (advanced m n)) ok)

pub returns-clause-largest : goal.returns-clause-largest
returns-clause-largest g c =
    let o = c.args.self.now in
    let n = c.args.count in
    subst (Largest (model o) n) (sym (ap (λ (a : Advanced). a.ticks) c.pass.ensures.answer)) (advance_largest (model o) n c.reach-ticks.result c.reach-ticks.ensures.answer o.sound (omega arith) (omega arith))

pub returns-clause-punctual : goal.returns-clause-punctual
returns-clause-punctual g c = let o = c.args.self.now in leapt_punctual (model o) o.sound c.reach-ticks.result c.pass.result c.pass.ensures.answer

pub returns-clause-at_work : goal.returns-clause-at_work
returns-clause-at_work g c = let o = c.args.self.now in leapt_works (model o) o.sound c.reach-ticks.result c.pass.result c.pass.ensures.answer
