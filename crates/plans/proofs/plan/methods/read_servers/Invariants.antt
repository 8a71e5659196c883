use Rattle.plans.proofs.Reading.{Reading}
use Rattle.plans.proofs.plan.methods.read_servers.Given as goal
use Rattle.std.proofs.Common.{vec_items}

abbrev pub invariant-loop-place : goal.invariant-loop-place
invariant-loop-place l = Reading l.bytes l.place (vec_items l.servers)
