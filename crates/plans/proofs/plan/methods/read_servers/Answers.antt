use Rattle.plans.proofs.Reading.{reading_all, reading_stops, sized_parts}
use Rattle.plans.proofs.plan.methods.read_servers.Goals as goal
use Rattle.plans.specs.Faults.{head_form}
use Rattle.std.proofs.lemmas.Result.{err_from_is_err_and}
use Rattle.std.proofs.Common.{vec_items, sym, ap, ◌∙◌, arith}

pub returns-in_err-read_record : goal.returns-in_err-read_record
returns-in_err-read_record c =
    let p = err_from_is_err_and c.from_residual.result c.from_residual.ensures.1 in
    rw (p.1, p.2) (record { answer = reading_stops c.args.bytes.now c.loop-place.place _ c.loop-place.invariant (vec_items c.read_record.new.servers) c.in_err-read_record.field-0.0 (omega arith) c.in_err-read_record.ensures.answer })

pub returns : goal.returns
returns c =
    let size = sized_parts c.args.bytes.now c.requires.0 in
    record { answer = reading_all c.args.bytes.now c.loop-place.place _ (omega arith) size (λ i. omega (arith, c.type_inv.bytes i)) (ap head_form (sym c.at.ensures.answer) ∙ sym c.if-not-is_head.ensures.answer) c.loop-place.invariant }
