-- The kinds of records and their numbers.
use Rattle.std.specs.Prelude.{◌≡◌, ℕ, ◌<◌, Result, MatchResult}
use Rattle.limits.specs.declared.refusal.Refusal.{Refusal}
use Rattle.limits.specs.declared.refusal.Refusal.TheVariants.{RecordForm}
use Rattle.plans.specs.declared.kind.Kind.{Kind}
use Rattle.plans.specs.declared.kind.Kind.TheVariants.{Head, Server, Action}

abbrev pub code_of : Kind → ℕ
code_of Head = 0
code_of Server = 1
code_of Action = 2

-- the kind of a number, or the refusal of a number that no kind has
abbrev pub Coded : ℕ → Result Kind Refusal → Type 0
Coded code r = MatchResult r (λ kind. code_of kind ≡ code) (λ why. (why ≡ RecordForm) × (2 < code))
