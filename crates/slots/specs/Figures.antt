-- Worked figures: one table, and the test that each of its rows is right.
use Rattle.std.specs.Prelude.{ℕ, ◌+◌, Bool, true, false, ◌&&◌, List, [], ◌∷◌, ◌++◌, map, Some, None, Option, ◌==◌}
use Rattle.limits.specs.Refusals.{number}
use Rattle.limits.specs.declared.refusal.Refusal.{Refusal}
use Rattle.limits.specs.declared.refusal.Refusal.TheVariants.{CapsExceedProcessor, LimitAboveCap}
use Rattle.release.specs.Actions.{action}
use Rattle.release.specs.Figures as release
use Rattle.release.specs.Rules.{late}
use Rattle.slots.specs.Steps.{Model, admit_after, admit_refusal, fresh, start_refusal}

pub data Figure : Type 0 where
  -- a figure of one action on paper
  ends : release.Figure → Figure
  -- on a new board a server is admitted with this cap, and an action of this limit and period is refused so, or not
  starts : ℕ → ℕ → ℕ → Option Refusal → Figure
  -- on a new board servers ask to be admitted with these caps, one after another, and are refused so, or not
  admits : List ℕ → List (Option Refusal) → Figure

abbrev pub figures : List Figure
figures =
    map ends release.figures
    ++ starts 250000 1 4 None
    ∷ starts 250000 1 3 (Some LimitAboveCap)
    ∷ admits (500000 ∷ 500000 ∷ 1 ∷ []) (None ∷ None ∷ Some CapsExceedProcessor ∷ [])
    ∷ []

-- 0, or the number of the refusal
abbrev pub answer_number : Option Refusal → ℕ
answer_number None = 0
answer_number (Some why) = number why

-- the same answer
abbrev pub same : Option Refusal → Option Refusal → Bool
same a b = answer_number a == answer_number b

-- the servers s, s + 1, .. ask to be admitted with these caps, and get these answers
abbrev pub answers_are : Model → ℕ → List ℕ → List (Option Refusal) → Bool
answers_are m s [] [] = true
answers_are m s [] (a ∷ answers) = false
answers_are m s (c ∷ caps) [] = false
answers_are m s (c ∷ caps) (a ∷ answers) = same (admit_refusal m s c) a && answers_are (admit_after m s c) (s + 1) caps answers

abbrev pub right : Figure → Bool
right (ends figure) = release.right figure
right (starts share limit period answer) = same (start_refusal late (admit_after fresh 1 share) 1 (action 0 1 limit period)) answer
right (admits caps answers) = answers_are fresh 1 caps answers
