-- Worked figures: one table, and the test that each of its rows is right.
use Rattle.std.specs.Prelude.{ℕ, Bool, List, [], ◌∷◌, ◌==◌}
use Rattle.release.specs.Actions.{Meaning, action, forecast}
use Rattle.release.specs.Rules.{early, late}

pub data Figure : Type 0 where
  -- an action of this arrival, load, limit and period ends under the rule at the instant that comes last
  ends : ℕ → ℕ → ℕ → ℕ → Meaning → ℕ → Figure

abbrev pub figures : List Figure
figures =
    ends 0 3 2 4 late 8
    ∷ ends 1 1 1 2 late 4
    ∷ ends 10 5 2 4 late 24
    ∷ ends 10 5 2 4 early 20
    ∷ ends 1 1 2 4 early 4
    ∷ ends 3 1 1 4 early 8
    ∷ ends 0 98 2 20 late 980
    ∷ ends 1 98 2 20 late 1000
    ∷ []

abbrev pub right : Figure → Bool
right (ends arrival load limit period rule end) = forecast rule (action arrival load limit period) == end
