use Rattle.plans.proofs.Unique.{reads}
use Rattle.plans.proofs.plan.Plan.read.Goals as goal

pub returns : goal.returns
returns c = record { answer = reads c.args.bytes.now _ c.in_ok-servers.ensures.answer.1 }
