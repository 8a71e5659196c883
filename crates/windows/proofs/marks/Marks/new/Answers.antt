use Rattle.windows.proofs.Marking.{bare_marked, blank, blank_fine, blanks}
use Rattle.windows.proofs.marks.Marks.new.Goals as goal

pub invariant_of-result : goal.invariant_of-result
invariant_of-result c = blank_fine

pub returns : goal.returns
returns c = record { answer = bare_marked blanks blank 0; keeps = blank_fine }
