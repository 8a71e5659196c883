use Rattle.std.proofs.Common.{◌≡◌, ◌+◌, length, vec_items, sym, ◌∙◌, inl, inr, arith}
use Rattle.scripts.proofs.Cuts.{cutting_all, cutting_bad, cutting_more, cutting_none, cutting_shrinks, reads}
use Rattle.scripts.proofs.script.Script.read.Goals as goal
use Rattle.std.proofs.lemmas.Bool.{eqb-false, eqb-true}
use Rattle.std.proofs.lemmas.Result.{err_from_is_err_and}

pub loop-rest-init : goal.loop-rest-init
loop-rest-init c = cutting_none c.args.bytes.now _ c.new-lines.ensures.items

pub returns-then-place-gt-MOST_LINES : goal.returns-then-place-gt-MOST_LINES
returns-then-place-gt-MOST_LINES c =
    let ls = c.loop-rest.lines in
    let some = eqb-false (length c.loop-rest.rest.now) 0 (sym c.loop-rest-test.ensures) in
    rw c.into.ensures
    (record { answer = cutting_bad c.args.bytes.now c.loop-rest.rest.now (vec_items ls) c.loop-rest.invariant c.script_fault.result (c.len-place.result + 1) c.script_fault.ensures.answer (omega (arith, ls.ok.0)) (omega arith) (inl (omega (arith, ls.ok.0, c.loop-rest.invariant.few))) })

pub returns-in_err-line : goal.returns-in_err-line
returns-in_err-line c =
    let ls = c.loop-rest.lines in
    let some = eqb-false (length c.loop-rest.rest.now) 0 (sym c.loop-rest-test.ensures) in
    let o = c.in_err-line.ensures in
    let p = err_from_is_err_and c.from_residual.result c.from_residual.ensures.1 in
    let f = c.in_err-line.field-0.0 in
    let why : f ≡ c.script_fault-in-loop-rest.result = cc (rw o.ok_part at o.value) in
    rw (p.1, p.2)
    (record { answer = cutting_bad c.args.bytes.now c.loop-rest.rest.now (vec_items ls) c.loop-rest.invariant f (c.len-place.result + 1) (why ∙ c.script_fault-in-loop-rest.ensures.answer) (omega (arith, ls.ok.0)) (omega arith) (inr (rw o.ok_part at c.read_line.ensures.answer)) })

pub loop-rest-smaller : goal.loop-rest-smaller
loop-rest-smaller c =
    let read = rw c.in_ok-line.ensures.ok_part at c.read_line.ensures.answer in
    cutting_shrinks c.args.bytes.now c.loop-rest.rest.now (vec_items c.loop-rest.lines) c.loop-rest.invariant c.in_ok-line.line c.in_ok-line.after.now read.0 read.1

pub loop-rest-preserved : goal.loop-rest-preserved
loop-rest-preserved c =
    let read = rw c.in_ok-line.ensures.ok_part at c.read_line.ensures.answer in
    cutting_more c.args.bytes.now c.loop-rest.rest.now (vec_items c.loop-rest.lines) c.loop-rest.invariant c.in_ok-line.line c.in_ok-line.after.now _ (omega (arith, c.loop-rest.lines.ok.0)) read.0 read.1 c.in_ok-push.ensures.items

pub returns : goal.returns
returns c =
    record { answer = reads c.args.bytes.now _ (cutting_all c.args.bytes.now c.loop-rest.rest.now (vec_items c.loop-rest.lines) c.loop-rest.invariant (eqb-true (length c.loop-rest.rest.now) 0 (sym c.loop-rest-test.ensures))) }
