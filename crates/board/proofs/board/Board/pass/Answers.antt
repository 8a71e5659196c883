use Rattle.std.proofs.Common.{◌∙◌, sym}
use Rattle.board.specs.Boards.{model}
use Rattle.board.proofs.Passes.{pass_caps, pass_fit, pass_lasting, pass_sets, pass_sound, pass_turns}
use Rattle.board.proofs.board.Board.pass.Goals as goal

pub close-sets-requires : goal.close-sets-requires
close-sets-requires g c = let o = c.args.self.now in pass_fit (model o) c.args.ticks o.sound o.lasting c.requires c.serve-served.new.self.slots c.serve-served.ensures.slots

pub invariant_of-self : goal.invariant_of-self
invariant_of-self g c =
    let o = c.args.self.now in
    let ys = c.serve-served.new.self.slots in
    let zs = c.close-sets.new.self.slots in
    let is = c.serve-served.ensures.slots in
    let is' = c.close-sets.ensures.slots in
    record {
      early = c.requires.early;
      caps = o.caps ∙ sym (pass_caps (model o) c.args.ticks o.sound o.lasting c.requires ys is zs is');
      sound = pass_sound (model o) c.args.ticks o.sound o.lasting c.requires ys is zs is';
      lasting = pass_lasting (model o) c.args.ticks o.sound o.lasting c.requires ys is zs is';
    }

pub returns-clause-answer : goal.returns-clause-answer
returns-clause-answer g c =
    let o = c.args.self.now in
    let sets = c.close-sets.ensures.answer ∙ pass_sets (model o) c.args.ticks o.sound o.lasting c.requires c.serve-served.new.self.slots c.serve-served.ensures.slots in
    λ i. record { served = c.serve-served.ensures.answer i; ticks = c.args.ticks; sets = sets i }

pub returns-clause-after : goal.returns-clause-after
returns-clause-after g c = let o = c.args.self.now in pass_turns (model o) c.args.ticks o.sound o.lasting c.requires c.serve-served.new.self.slots c.serve-served.ensures.slots c.close-sets.new.self.slots c.close-sets.ensures.slots
