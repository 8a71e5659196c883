-- The text of a script, as it would be printed.
use Rattle.std.specs.Prelude.{ℕ, Bool, true, ◌&&◌, List, [], ◌∷◌, ◌++◌, codes, decimal, nat_le}
use Rattle.limits.specs.Ranges.{horizon}
use Rattle.scripts.specs.declared.line.Command.{Command}
use Rattle.scripts.specs.declared.line.Command.TheVariants.{Admit, Leave, Start, Wait}
use Rattle.scripts.specs.declared.line.Line.{Line}
use Rattle.std.specs.List.{flat_map}

-- a letter, and the numbers of a server and an action, each after one space
abbrev pub command_text : Command → List ℕ
command_text (Admit s) = codes "A " ++ decimal s
command_text (Leave s) = codes "L " ++ decimal s
command_text (Start s a) = codes "S " ++ (decimal s ++ (codes " " ++ decimal a))
command_text Wait = codes "W"

-- the instant, a space and the command
abbrev pub shown_line : Line → List ℕ
shown_line l = decimal l.instant ++ (codes " " ++ command_text l.command)

-- the same and a line feed
abbrev pub line_text_of : Line → List ℕ
line_text_of l = decimal l.instant ++ (codes " " ++ (command_text l.command ++ codes "\n"))

abbrev pub script_text : List Line → List ℕ
script_text ls = flat_map line_text_of ls

-- the numbers of a command are 0 to 255
abbrev pub valid_command : Command → Bool
valid_command (Admit s) = nat_le s 255
valid_command (Leave s) = nat_le s 255
valid_command (Start s a) = nat_le s 255 && nat_le a 255
valid_command Wait = true

-- the instant is up to the horizon
abbrev pub valid_line : Line → Bool
valid_line l = nat_le l.instant horizon && valid_command l.command

abbrev pub valid_lines : List Line → Bool
valid_lines [] = true
valid_lines (l ∷ ls) = valid_line l && valid_lines ls
