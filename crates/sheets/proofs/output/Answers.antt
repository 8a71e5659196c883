use Rattle.sheets.proofs.Errors.{no_plan, no_script}
use Rattle.sheets.proofs.output.Goals as goal
use Rattle.std.proofs.lemmas.Result.{IfOk-weaker}
use Rattle.std.proofs.Common.{inl}

pub returns-in-Err : goal.returns-in-Err
returns-in-Err c =
    record { answer = no_plan c.args.plan.now c.args.script.now c.in-Err.e c.error_text.result c.in-Err.ensures.answer c.error_text.ensures.answer }

pub returns-in-Ok-read : goal.returns-in-Ok-read
returns-in-Ok-read c =
    record {
      answer = IfOk-weaker c.list.result _ _
          (λ text e. inl (record { read_plan = c.in-Ok.plan; read_script = c.in-Ok-read.script; planned = c.in-Ok.ensures.answer; scripted = c.in-Ok-read.ensures.answer; written = e }))
          c.list.ensures.answer;
    }

pub returns : goal.returns
returns c =
    record { answer = no_script c.args.plan.now c.args.script.now c.in-Ok.plan c.in-Ok.ensures.answer c.in-Err-read.e c.error_text-in-Err-read.result c.in-Err-read.ensures.answer c.error_text-in-Err-read.ensures.answer }
