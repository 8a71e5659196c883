use Rattle.std.proofs.Common.{sym, ◌∙◌}
use Rattle.windows.proofs.Steps.{bare_near, moved_fine, near_none}
use Rattle.windows.proofs.marks.Marks.offer.Goals as goal
use Rattle.windows.specs.Marked.{Parts}

pub invariant_of-self : goal.invariant_of-self
invariant_of-self c =
    let m : Parts = record { base = c.self.inside.base; sets = c.self.inside.sets; summary = c.self.inside.summary; held = c.self.inside.held } in
    moved_fine c.args.self.now m c.self.view_is c.self.invariant c.if-self-eq0.true c.args.entry.instant c.requires.proper.2

pub mark-requires-clause-absent : goal.mark-requires-clause-absent
mark-requires-clause-absent c =
    let m : Parts = record { base = c.self.inside.base; sets = c.self.inside.sets; summary = c.self.inside.summary; held = c.self.inside.held } in
    bare_near c.args.self.now m c.self.view_is c.self.invariant c.if-self-eq0.true c.args.entry.instant c.args.entry.server

pub returns-then-self-eq0-clause-after : goal.returns-then-self-eq0-clause-after
returns-then-self-eq0-clause-after c =
    let m : Parts = record { base = c.self.inside.base; sets = c.self.inside.sets; summary = c.self.inside.summary; held = c.self.inside.held } in
    let e = c.args.entry in
    let empty = c.if-self-eq0.true in
    let put = c.mark.ensures.after in
    λ _. (put.0, λ k u. put.1 k u ∙ bare_near c.args.self.now m c.self.view_is c.self.invariant empty e.instant k ∙ sym (near_none c.args.self.now m c.self.view_is c.self.invariant empty k))
