use Rattle.scripts.proofs.Fronts.{line_read, no_command, no_instant}
use Rattle.scripts.proofs.reader.read_line.Goals as goal

pub returns-in_err-instant : goal.returns-in_err-instant
returns-in_err-instant c =
    rw c.from_residual.ensures (record { answer = no_instant c.args.text.now c.in_err-instant.ensures.answer })

pub returns-in_err-command : goal.returns-in_err-command
returns-in_err-command c =
    let number = c.in_ok-instant.ensures.answer in
    rw c.from_residual-in_err-command.ensures
    (record { answer = no_command c.args.text.now c.in_ok-instant.command.now c.in_ok-instant.instant number.0 number.1 c.in_err-command.ensures.answer })

pub returns : goal.returns
returns c =
    let number = c.in_ok-instant.ensures.answer in
    let command = c.in_ok-command.ensures.answer in
    record { answer = line_read c.args.text.now c.in_ok-instant.command.now c.in_ok-command.rest.now c.in_ok-instant.instant c.in_ok-command.command number.0 number.1 command.0 command.1 }
