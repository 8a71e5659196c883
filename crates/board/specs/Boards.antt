-- A board as its clock and its slots.
use Rattle.queues.specs.declared.queue.Queue as queues
use Rattle.release.specs.declared.rule.ReleaseRule as rules
use Rattle.board.specs.declared.board.Board.{Board}
use Rattle.slots.specs.Steps.{Model}

abbrev pub model : {R X Y : Type 0} {r : rules.Ghosts R} {q : queues.Ghosts X} {c : queues.Ghosts Y} → Board R X Y r q c → Model
model b = record { clock = b.clock; slots = b.table.slots }
