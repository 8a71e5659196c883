use Rattle.std.proofs.Common.{arith}
use Rattle.bits.specs.Servers.{IsServer}
use Rattle.windows.proofs.Steps.{marking_fine, marking_put}
use Rattle.windows.proofs.marks.Marks.mark.Goals as goal
use Rattle.windows.specs.Marked.{Parts}

pub invariant_of-self : goal.invariant_of-self
invariant_of-self c =
    let m : Parts = record { base = c.self.inside.base; sets = c.self.inside.sets; summary = c.self.inside.summary; held = c.self.inside.held } in
    let proper = c.requires.proper in
    let s : IsServer c.args.entry.server = (proper.0, proper.1) in
    marking_fine c.args.self.now m c.self.view_is c.self.invariant c.args.entry c.insert.new.self c.with_bit-self-inside.result c.insert-2.new.self (omega arith)
    proper c.requires.from c.requires.to c.requires.absent (c.insert.ensures.server s) c.with_bit-self-inside.ensures.answer (c.insert-2.ensures.server s)

pub returns-clause-after : goal.returns-clause-after
returns-clause-after c =
    let m : Parts = record { base = c.self.inside.base; sets = c.self.inside.sets; summary = c.self.inside.summary; held = c.self.inside.held } in
    let proper = c.requires.proper in
    let s : IsServer c.args.entry.server = (proper.0, proper.1) in
    marking_put c.args.self.now m c.self.view_is c.self.invariant c.args.entry c.insert.new.self c.with_bit-self-inside.result c.insert-2.new.self (omega arith)
    proper c.requires.from c.requires.to c.requires.absent (c.insert.ensures.server s) c.with_bit-self-inside.ensures.answer (c.insert-2.ensures.server s)

pub returns-clause-keeps : goal.returns-clause-keeps
returns-clause-keeps c =
    let m : Parts = record { base = c.self.inside.base; sets = c.self.inside.sets; summary = c.self.inside.summary; held = c.self.inside.held } in
    let proper = c.requires.proper in
    let s : IsServer c.args.entry.server = (proper.0, proper.1) in
    marking_fine c.args.self.now m c.self.view_is c.self.invariant c.args.entry c.insert.new.self c.with_bit-self-inside.result c.insert-2.new.self (omega arith)
    proper c.requires.from c.requires.to c.requires.absent (c.insert.ensures.server s) c.with_bit-self-inside.ensures.answer (c.insert-2.ensures.server s)
