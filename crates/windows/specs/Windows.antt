-- A window of marks over any queue.
use Rattle.queues.specs.Dues.{Due, Within}
use Rattle.queues.specs.declared.queue.Queue.{Ghosts}
use Rattle.windows.specs.Both.{both, both_within}
use Rattle.windows.specs.Marked.{near}
use Rattle.windows.specs.declared.window.Window.{Window}

-- the marks and the entries below
abbrev pub over : {X : Type 0} {q : Ghosts X} → Window X q → Due
over {X} {q} w = both (near w.marks) (q.due w.below)

-- only servers have entries, and none past the horizon
pub window_within : {X : Type 0} {q : Ghosts X} (w : Window X q) → Within (over w)
window_within {X} {q} w = both_within (near w.marks) (q.due w.below) w.within (q.within w.below)
