use Rattle.release.proofs.Lasting.{forecast_law}
use Rattle.release.proofs.forecast.forecast_end.Goals as goal

pub returns-clause-law : goal.returns-clause-law
returns-clause-law g c = forecast_law (g.R.ReleaseRule.amount c.args.rule.now) (g.met.R.ReleaseRule.share c.args.rule.now)
