use Rattle.std.proofs.Common.{true, false}
use Rattle.windows.proofs.Overs.{led}
use Rattle.windows.proofs.window.methods.WindowQueue.least.Goals as goal

pub returns-then-marks_lead : goal.returns-then-marks_lead
returns-then-marks_lead g c = record { answer = led c.args.self.now c.least-near.result c.least-next.result true c.if-marks_lead.ensures.answer c.least-near.ensures.answer c.least-next.ensures.answer }

pub returns-else-marks_lead : goal.returns-else-marks_lead
returns-else-marks_lead g c = record { answer = led c.args.self.now c.least-near.result c.least-next.result false c.if-marks_lead.ensures.answer c.least-near.ensures.answer c.least-next.ensures.answer }
