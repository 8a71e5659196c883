use Rattle.timer_sheets.proofs.text.push_lines.Given as goal
use Rattle.timer_sheets.specs.Runs.{to_come}
use Rattle.timer_sheets.specs.Shown.{sheet_text}
use Rattle.std.proofs.Common.{◌≡◌, ◌++◌, length, string_bytes}

abbrev pub invariant-loop-line : goal.invariant-loop-line
invariant-loop-line g l =
    string_bytes l.text ++ sheet_text (to_come l.run) ≡ string_bytes l.initial.text ++ sheet_text (to_come l.initial.run)

abbrev pub decreases-loop-line : goal.decreases-loop-line
decreases-loop-line g l = length (to_come l.run)
