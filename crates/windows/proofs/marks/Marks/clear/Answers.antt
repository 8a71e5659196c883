use Rattle.std.proofs.Common.{◌<◌, length, min, ap, ◌∙◌, arith}
use Rattle.windows.proofs.Steps.{clearing_fine, clearing_taken, off, place, standing}
use Rattle.windows.proofs.Summaries.{pos_from_bit, word_here}
use Rattle.windows.proofs.marks.Marks.clear.Goals as goal
use Rattle.windows.specs.Marked.{Parts, word}

pub resummed-self-inside-requires-clause-was : goal.resummed-self-inside-requires-clause-was
resummed-self-inside-requires-clause-was c =
    let m : Parts = record { base = c.self.inside.base; sets = c.self.inside.sets; summary = c.self.inside.summary; held = c.self.inside.held } in
    let e = c.args.entry in
    let s = standing c.args.self.now m c.self.view_is c.self.invariant e c.requires.stands in
    let pos = pos_from_bit (word m.sets (off m e)) (place e) s.stands in
    omega (arith, c.self.invariant.summed (off m e) s.short)

pub invariant_of-self : goal.invariant_of-self
invariant_of-self c =
    let m : Parts = record { base = c.self.inside.base; sets = c.self.inside.sets; summary = c.self.inside.summary; held = c.self.inside.held } in
    let e = c.args.entry in
    let w = c.remove.new.self in
    let s = standing c.args.self.now m c.self.view_is c.self.invariant e c.requires.stands in
    let inside : off m e < length m.sets = omega (arith, s.short) in
    let sum = c.resummed-self-inside.ensures in
    clearing_fine c.args.self.now m c.self.view_is c.self.invariant e w c.resummed-self-inside.result c.remove-2.new.self (omega arith)
    c.requires.stands (c.remove.ensures.server s.server) (sum.here ∙ ap (min 1) (word_here m.sets (off m e) w inside)) sum.others (c.remove-2.ensures.server s.server)

pub returns-clause-after : goal.returns-clause-after
returns-clause-after c =
    let m : Parts = record { base = c.self.inside.base; sets = c.self.inside.sets; summary = c.self.inside.summary; held = c.self.inside.held } in
    let e = c.args.entry in
    let w = c.remove.new.self in
    let s = standing c.args.self.now m c.self.view_is c.self.invariant e c.requires.stands in
    let inside : off m e < length m.sets = omega (arith, s.short) in
    let sum = c.resummed-self-inside.ensures in
    clearing_taken c.args.self.now m c.self.view_is c.self.invariant e w c.resummed-self-inside.result c.remove-2.new.self (omega arith)
    c.requires.stands (c.remove.ensures.server s.server) (sum.here ∙ ap (min 1) (word_here m.sets (off m e) w inside)) sum.others (c.remove-2.ensures.server s.server)

pub returns-clause-keeps : goal.returns-clause-keeps
returns-clause-keeps c =
    let m : Parts = record { base = c.self.inside.base; sets = c.self.inside.sets; summary = c.self.inside.summary; held = c.self.inside.held } in
    let e = c.args.entry in
    let w = c.remove.new.self in
    let s = standing c.args.self.now m c.self.view_is c.self.invariant e c.requires.stands in
    let inside : off m e < length m.sets = omega (arith, s.short) in
    let sum = c.resummed-self-inside.ensures in
    clearing_fine c.args.self.now m c.self.view_is c.self.invariant e w c.resummed-self-inside.result c.remove-2.new.self (omega arith)
    c.requires.stands (c.remove.ensures.server s.server) (sum.here ∙ ap (min 1) (word_here m.sets (off m e) w inside)) sum.others (c.remove-2.ensures.server s.server)
