use Rattle.scripts.specs.Agendas.{coming}
use Rattle.scripts.specs.Lines.{script_text}
use Rattle.sheets.proofs.list_lines.Given as goal
use Rattle.std.proofs.Common.{◌≡◌, ◌++◌, length, string_bytes}

abbrev pub invariant-loop-line : goal.invariant-loop-line
invariant-loop-line l = string_bytes l.out ++ script_text (coming l.agenda) ≡ string_bytes l.initial.out ++ script_text (coming l.initial.agenda)

abbrev pub decreases-loop-line : goal.decreases-loop-line
decreases-loop-line l = length (coming l.agenda)
