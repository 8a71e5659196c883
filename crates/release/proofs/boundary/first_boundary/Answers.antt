use Rattle.std.proofs.Common.{ℕ, ◌+◌, ◌-◌, ◌%◌, ◌<◌, ◌≤◌, Some, None, Option, ◌∙◌, arith}
use Rattle.release.proofs.Ceils.{multiple_least, multiple_next}
use Rattle.release.proofs.boundary.first_boundary.Goals as goal
use Rattle.release.specs.Actions.{multiple_from}
use Rattle.std.specs.Option.{SomeIff}

-- the next multiple fits where it is the least from the arrival on
checked : (n d most : ℕ) (r : Option ℕ) → SomeIff r ((0 < d) × (n + (d - n % d) % d < most)) (n + (d - n % d) % d) → SomeIff r ((1 ≤ d) × (multiple_from n d < most)) (multiple_from n d)
checked n d most None h = λ p. let e = multiple_next n d p.0 in h (p.0, omega arith)
checked n d most (Some x) h = let e = multiple_next n d h.0.0 in ((h.0.0, omega arith), h.1 ∙ e)

pub returns : goal.returns
returns c = record {
  answer = checked c.args.arrival c.args.period _ c.checked_next_multiple_of.result c.checked_next_multiple_of.ensures;
  law = multiple_least c.args.arrival c.args.period;
}
