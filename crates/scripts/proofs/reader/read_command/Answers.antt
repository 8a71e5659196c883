use Rattle.scripts.proofs.Fronts.{no_start_command, start_parts}
use Rattle.scripts.proofs.reader.read_command.Goals as goal
use Rattle.std.proofs.lemmas.Bool.{and_from, le-leb}
use Rattle.std.proofs.Common.{◌∷◌, sym, ◌∙◌}

pub returns-in_err-server-in-S : goal.returns-in_err-server-in-S
returns-in_err-server-in-S c =
    rw c.from_residual-in_err-server-in-S.ensures
    (record { answer = no_start_command c.args.text.now c.in_ok-letter.fields.now c.in_ok-letter.letter.now c.in_ok-letter.ensures.cases.0 c.in-S.is c.in_err-server-in-S.ensures.answer })

pub returns-in_ok-server-in-S : goal.returns-in_ok-server-in-S
returns-in_ok-server-in-S c =
    let start = c.in_ok-server-in-S.ensures.answer in
    record {
      answer = (
        and_from _ _ (le-leb _ 255 start.0) (le-leb _ 255 start.1),
        c.in_ok-letter.ensures.cases.0 ∙ (λ i. c.in-S.is i ∷ start.2 i) ∙ sym (start_parts _ _ _),
      );
    }
