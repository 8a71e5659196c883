-- The text of a line of the sheet.
use Rattle.std.specs.Prelude.{ℕ, List, [], ◌∷◌, ◌++◌, codes, decimal, unwrap_or}
use Rattle.limits.specs.Refusals.{refusal_number_of}
use Rattle.timer_sheets.specs.declared.line.SheetLine.{SheetLine}
use Rattle.timer_sheets.specs.declared.line.SheetLine.TheVariants.{Admit, Leave, Start, Run}
use Rattle.std.specs.List.{flat_map}
use Rattle.std.specs.Result.{result_unwrap_or}

-- the parts of a line: instant, letter, and its numbers
abbrev pub parts_of : SheetLine → List (List ℕ)
parts_of (Admit t s r) = decimal t ∷ codes "A" ∷ decimal s ∷ decimal (refusal_number_of r) ∷ []
parts_of (Leave t s r) = decimal t ∷ codes "L" ∷ decimal s ∷ decimal (refusal_number_of r) ∷ []
parts_of (Start t s a r) = decimal t ∷ codes "S" ∷ decimal s ∷ decimal a ∷ decimal (refusal_number_of r) ∷ decimal (result_unwrap_or r 0) ∷ []
parts_of (Run t a) =
    decimal t ∷ codes "R" ∷ decimal (unwrap_or a.served 0) ∷ decimal a.ticks
    ∷ decimal a.sets.released.word ∷ decimal a.sets.ended.word ∷ decimal a.sets.late.word ∷ []

-- parts joined by one space
abbrev pub spaced : List (List ℕ) → List ℕ
spaced [] = []
spaced (x ∷ []) = x
spaced (x ∷ (y ∷ ys)) = x ++ (codes " " ++ spaced (y ∷ ys))

abbrev pub shown_line : SheetLine → List ℕ
shown_line l = spaced (parts_of l)

-- a line and its line feed
abbrev pub line_text_of : SheetLine → List ℕ
line_text_of l = shown_line l ++ codes "\n"

abbrev pub sheet_text : List SheetLine → List ℕ
sheet_text ls = flat_map line_text_of ls
