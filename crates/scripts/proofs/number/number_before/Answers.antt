use Rattle.std.proofs.Common.{◌+◌, ◌∷◌, ◌++◌, decimal, sym, ap, ◌∙◌, arith}
use Rattle.scripts.proofs.Numbers.{below_digits, found, next, not_empty, not_large, not_lead, not_other, not_over}
use Rattle.scripts.proofs.number.number_before.Goals as goal
use Rattle.scripts.specs.Fields.{byte_of}
use Rattle.scripts.proofs.number.number_before.Goals.{else-i-eq1-via-else-i-eq1, else-i-eq1-via-then-i-eq1+else-text-eq48, then-b-lt48-via-else-b-lt48+then-b-gt57, then-b-lt48-via-then-b-lt48}
use Rattle.std.proofs.lemmas.List.{take_rest}

pub returns-then-i-eq0 : goal.returns-then-i-eq0
returns-then-i-eq0 c = record {
  answer =
      λ n rest few e. not_empty c.args.text.now (byte_of c.args.end) c.args.most c.loop-i.i c.loop-i.value (below_digits c.args.end) c.requires c.loop-i.invariant n rest few e c.if-i-eq0.true (c.if-b-last.true ∙ c.byte-last.ensures.answer);
}

pub returns-then-b-last : goal.returns-then-b-last
returns-then-b-last c =
    let r = found c.args.text.now (byte_of c.args.end) c.args.most c.loop-i.i c.loop-i.value (below_digits c.args.end) c.requires c.loop-i.invariant c.loop-i-test.true (omega arith) (c.if-b-last.true ∙ c.byte-last.ensures.answer) in
    record { answer = (r.0, r.1 ∙ ap (λ l. decimal c.loop-i.value ++ byte_of c.args.end ∷ l) (sym (take_rest c.args.text.now (c.loop-i.i + 1)))) }

pub returns-then-b-lt48 : goal.returns-then-b-lt48
returns-then-b-lt48 c = record {
  answer =
      λ n rest few e. not_other c.args.text.now (byte_of c.args.end) c.args.most c.loop-i.i c.loop-i.value (below_digits c.args.end) c.requires c.loop-i.invariant n rest few e (λ h. c.if-b-last.false (h ∙ sym c.byte-last.ensures.answer))
      (λ d. elim c.then-b-lt48.branch [ then-b-lt48-via-then-b-lt48 w ↦ omega (arith, w.if-b-lt48.true) | then-b-lt48-via-else-b-lt48+then-b-gt57 w ↦ omega (arith, w.if-b-gt57.true) ]);
}

pub returns-then-text-eq48 : goal.returns-then-text-eq48
returns-then-text-eq48 c = record {
  answer =
      λ n rest few e. not_lead c.args.text.now (byte_of c.args.end) c.args.most c.loop-i.i c.loop-i.value (below_digits c.args.end) c.requires c.loop-i.invariant n rest few e c.if-i-eq1.true c.if-text-eq48.true (λ h. c.if-b-last.false (h ∙ sym c.byte-last.ensures.answer));
}

pub returns-then-value-most : goal.returns-then-value-most
returns-then-value-most c = record {
  answer =
      λ n rest few e. not_large c.args.text.now (byte_of c.args.end) c.args.most c.loop-i.i c.loop-i.value (below_digits c.args.end) c.requires c.loop-i.invariant n rest few e c.loop-i-test.true (λ h. c.if-b-last.false (h ∙ sym c.byte-last.ensures.answer)) c.if-value-most.true;
}

pub loop-i-preserved : goal.loop-i-preserved
loop-i-preserved c =
    next c.args.text.now (byte_of c.args.end) c.args.most c.loop-i.i c.loop-i.value (below_digits c.args.end) c.requires c.loop-i.invariant c.loop-i-test.true (c.if-b-lt48.false, c.if-b-gt57.false)
    (λ one zero. elim c.else-i-eq1.branch [ else-i-eq1-via-then-i-eq1+else-text-eq48 w ↦ w.if-text-eq48.false zero | else-i-eq1-via-else-i-eq1 w ↦ w.if-i-eq1.false one ])
    c.if-value-most.false

pub returns : goal.returns
returns c = record {
  answer =
      λ n rest few e. not_over c.args.text.now (byte_of c.args.end) c.args.most c.loop-i.i c.loop-i.value (below_digits c.args.end) c.requires c.loop-i.invariant n rest few e (omega arith);
}
