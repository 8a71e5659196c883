use Rattle.plans.proofs.Counts.{counted, few_counted}
use Rattle.plans.proofs.plan.Plan.records.Goals as goal
use Rattle.plans.specs.Plans.{actions_of}
use Rattle.std.proofs.Common.{◌≡◌, ◌+◌, length, rules, arith}
use Rattle.std.proofs.iter.runs.Made.{chains}
use Rattle.std.specs.List.{sum_by}

pub sum-servers-requires-clause-fits : goal.sum-servers-requires-clause-fits
sum-servers-requires-clause-fits c = let few = few_counted c.args.self.now _ c.servers.ensures.answer in search (rules, chains)

told : (c : goal.After-sum-servers) → c.sum-servers.result ≡ sum_by (λ s. 1 + length (actions_of s)) c.servers.result.now
told c = search (rules, chains)

pub overflow_add-result : goal.overflow_add-result
overflow_add-result c = omega (arith, told c, few_counted c.args.self.now _ c.servers.ensures.answer)

pub returns : goal.returns
returns c = record { answer = rw (told c, c.servers.ensures.answer, counted) (omega arith) }
