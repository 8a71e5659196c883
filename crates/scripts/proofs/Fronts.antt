-- What stands at the front of a text: one line, and one rest.
use Rattle.std.proofs.Common.{◌≡◌, ℕ, ◌<◌, ◌≤◌, true, leb, List, [], ◌∷◌, ◌++◌, get_or, drop, decimal, sym, ap, ◌∙◌, arith}
use Rattle.limits.specs.Ranges.{horizon}
use Rattle.scripts.proofs.Numbers.{same_number}
use Rattle.scripts.specs.Lines.{command_text, line_text_of, valid_command, valid_line}
use Rattle.scripts.specs.declared.line.Command.{Command}
use Rattle.scripts.specs.declared.line.Command.TheVariants.{Admit, Leave, Start, Wait}
use Rattle.scripts.specs.declared.line.Line.{Line}
use Rattle.std.proofs.lemmas.List.{append_assoc}
use Rattle.std.proofs.lemmas.Bool.{and_from, and_parts, le-leb, leb-true}

-- the parts of a line, one after another
pub line_parts : (l : Line) (rest : List ℕ) → line_text_of l ++ rest ≡ decimal l.instant ++ 32 ∷ (command_text l.command ++ 10 ∷ rest)
line_parts l rest =
    append_assoc (decimal l.instant) (32 ∷ (command_text l.command ++ 10 ∷ [])) rest
    ∙ ap (λ t. decimal l.instant ++ 32 ∷ t) (append_assoc (command_text l.command) (10 ∷ []) rest)

pub start_parts : (s a : ℕ) (rest : List ℕ) → command_text (Start s a) ++ 10 ∷ rest ≡ 83 ∷ 32 ∷ (decimal s ++ 32 ∷ (decimal a ++ 10 ∷ rest))
start_parts s a rest = ap (λ t. 83 ∷ 32 ∷ t) (append_assoc (decimal s) (32 ∷ decimal a) (10 ∷ rest))

-- a number up to 255, and what its end is followed by
same_byte : (end n m : ℕ) (r s : List ℕ) → end < 48 → n ≤ 255 → m ≤ 255 → decimal n ++ end ∷ r ≡ decimal m ++ end ∷ s → (n ≡ m) × (r ≡ s)
same_byte end n m r s low hn hm e = same_number end n m r s low (omega arith) (omega arith) e

-- no start follows: its first number is read, and no second
pub no_start : (text after : List ℕ) (s : ℕ) → s ≤ 255 → text ≡ 32 ∷ (decimal s ++ 32 ∷ after) → ((n : ℕ) (rest : List ℕ) → n ≤ 255 → after ≡ decimal n ++ 10 ∷ rest → ⊥) → (t a : ℕ) (rest : List ℕ) → t ≤ 255 → a ≤ 255 → text ≡ 32 ∷ (decimal t ++ 32 ∷ (decimal a ++ 10 ∷ rest)) → ⊥
no_start text after s hs e none t a rest ht ha f =
    none a rest ha (same_byte 32 s t after (decimal a ++ 10 ∷ rest) (omega arith) hs ht (ap (drop 1) (sym e ∙ f))).1

-- a text that begins with the letter of a start and no fields of one begins with no command
pub no_start_command : (text fields : List ℕ) (letter : ℕ) → text ≡ letter ∷ fields → letter ≡ 83 → ((s a : ℕ) (rest : List ℕ) → s ≤ 255 → a ≤ 255 → fields ≡ 32 ∷ (decimal s ++ 32 ∷ (decimal a ++ 10 ∷ rest)) → ⊥) → (k : Command) (rest : List ℕ) → valid_command k ≡ true → text ≡ command_text k ++ 10 ∷ rest → ⊥
no_start_command text fields letter split is none (Admit s) rest v e = omega (arith, ap (λ l. get_or l 0 0) (sym split ∙ e))
no_start_command text fields letter split is none (Leave s) rest v e = omega (arith, ap (λ l. get_or l 0 0) (sym split ∙ e))
no_start_command text fields letter split is none (Start s a) rest v e =
    let b = and_parts (leb s 255) (leb a 255) v in
    none s a rest (leb-true s 255 b.0) (leb-true a 255 b.1) (ap (drop 1) (sym split ∙ e ∙ start_parts s a rest))
no_start_command text fields letter split is none Wait rest v e = omega (arith, ap (λ l. get_or l 0 0) (sym split ∙ e))

-- no line without an instant at the front
pub no_instant : (text : List ℕ) → ((n : ℕ) (rest : List ℕ) → n ≤ horizon → text ≡ decimal n ++ 32 ∷ rest → ⊥) → (l : Line) (rest : List ℕ) → valid_line l ≡ true → text ≡ line_text_of l ++ rest → ⊥
no_instant text none l rest v e =
    none l.instant (command_text l.command ++ 10 ∷ rest) (leb-true l.instant horizon (and_parts (leb l.instant horizon) _ v).0) (e ∙ line_parts l rest)

-- no line without a command after it
pub no_command : (text after : List ℕ) (n : ℕ) → n ≤ horizon → text ≡ decimal n ++ 32 ∷ after → ((k : Command) (rest : List ℕ) → valid_command k ≡ true → after ≡ command_text k ++ 10 ∷ rest → ⊥) → (l : Line) (rest : List ℕ) → valid_line l ≡ true → text ≡ line_text_of l ++ rest → ⊥
no_command text after n h split none l rest v e =
    let b = and_parts (leb l.instant horizon) _ v in
    let m = leb-true l.instant horizon b.0 in
    none l.command rest b.1 (same_number 32 n l.instant after (command_text l.command ++ 10 ∷ rest) (omega arith) (omega arith) (omega arith) (sym split ∙ e ∙ line_parts l rest)).1

pub line_read : (text after rest : List ℕ) (n : ℕ) (k : Command) → n ≤ horizon → text ≡ decimal n ++ 32 ∷ after → valid_command k ≡ true → after ≡ command_text k ++ 10 ∷ rest → (valid_line (record { instant = n; command = k }) ≡ true) × (text ≡ line_text_of (record { instant = n; command = k }) ++ rest)
line_read text after rest n k h split v e =
    (and_from _ _ (le-leb n horizon h) v, split ∙ ap (λ t. decimal n ++ 32 ∷ t) e ∙ sym (line_parts (record { instant = n; command = k }) rest))
