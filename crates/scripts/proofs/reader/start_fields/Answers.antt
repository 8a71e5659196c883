use Rattle.scripts.proofs.Fronts.{no_start}
use Rattle.scripts.proofs.reader.start_fields.Goals as goal

pub returns-in_err-action : goal.returns-in_err-action
returns-in_err-action c =
    let field = c.in_ok-server.ensures.answer in
    rw c.from_residual-in_err-action.ensures (record { answer = no_start c.args.text.now _ c.in_ok-server.server field.0 field.1 c.in_err-action.ensures.answer })
