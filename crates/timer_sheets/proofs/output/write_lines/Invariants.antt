use Rattle.timer_sheets.proofs.output.write_lines.Given as goal
use Rattle.timer_sheets.specs.Runs.{to_come}
use Rattle.std.proofs.Common.{length}

abbrev pub decreases-loop-line : goal.decreases-loop-line
decreases-loop-line g l = length (to_come l.run)
