-- The parts of a script line, each exact both ways: a part is read from the front of a text where the text begins with it, and nothing is read where it begins with none.
use Rattle.std.specs.Prelude.{◌≡◌, ℕ, ◌≤◌, true, List, ◌∷◌, ◌++◌, decimal, Option, MatchOption, ◌≢◌}
use Rattle.scripts.specs.Lines.{command_text, line_text_of, valid_command, valid_line}
use Rattle.scripts.specs.declared.line.Command.{Command}
use Rattle.scripts.specs.declared.line.Line.{Line}
use Rattle.scripts.specs.declared.number.End.{End}
use Rattle.scripts.specs.declared.number.End.TheVariants.{Space, LineFeed}
use Rattle.std.specs.Borrow.{Bor}

-- the bytes that end numbers
abbrev pub byte_of : End → ℕ
byte_of Space = 32
byte_of LineFeed = 10

-- a number up to most, ended by the byte end
abbrev pub NumberBefore : List ℕ → ℕ → ℕ → Option (ℕ × Bor (List ℕ)) → Type 0
NumberBefore text end most r =
    MatchOption r ((n : ℕ) (rest : List ℕ) → n ≤ most → text ≢ decimal n ++ end ∷ rest)
    (λ x. (x.0 ≤ most) × (text ≡ decimal x.0 ++ end ∷ x.1.now))

-- one byte
abbrev pub After : List ℕ → ℕ → Option (Bor (List ℕ)) → Type 0
After text byte r = MatchOption r ((rest : List ℕ) → text ≢ byte ∷ rest) (λ x. text ≡ byte ∷ x.now)

-- a space, a number up to 255, and the byte end
abbrev pub FieldBefore : List ℕ → ℕ → Option (ℕ × Bor (List ℕ)) → Type 0
FieldBefore text end r =
    MatchOption r ((n : ℕ) (rest : List ℕ) → n ≤ 255 → text ≢ 32 ∷ (decimal n ++ end ∷ rest))
    (λ x. (x.0 ≤ 255) × (text ≡ 32 ∷ (decimal x.0 ++ end ∷ x.1.now)))

-- a space, a number, a space, a number and a line feed
abbrev pub StartRead : List ℕ → Option ((ℕ × ℕ) × Bor (List ℕ)) → Type 0
StartRead text r =
    MatchOption r ((s a : ℕ) (rest : List ℕ) → s ≤ 255 → a ≤ 255 → text ≢ 32 ∷ (decimal s ++ 32 ∷ (decimal a ++ 10 ∷ rest)))
    (λ x. (x.0.0 ≤ 255) × (x.0.1 ≤ 255) × (text ≡ 32 ∷ (decimal x.0.0 ++ 32 ∷ (decimal x.0.1 ++ 10 ∷ x.1.now))))

-- a command and a line feed
abbrev pub CommandRead : List ℕ → Option (Command × Bor (List ℕ)) → Type 0
CommandRead text r =
    MatchOption r ((c : Command) (rest : List ℕ) → valid_command c ≡ true → text ≢ command_text c ++ 10 ∷ rest)
    (λ x. (valid_command x.0 ≡ true) × (text ≡ command_text x.0 ++ 10 ∷ x.1.now))

-- a line
abbrev pub LineRead : List ℕ → Option (Line × Bor (List ℕ)) → Type 0
LineRead text r =
    MatchOption r ((l : Line) (rest : List ℕ) → valid_line l ≡ true → text ≢ line_text_of l ++ rest)
    (λ x. (valid_line x.0 ≡ true) × (text ≡ line_text_of x.0 ++ x.1.now))
