-- Tasks, by their numbers.
use Rattle.std.specs.Prelude.{ℕ}
use Rattle.limits.specs.declared.task.Task.{Task}

abbrev pub task : (load limit period : ℕ) → Task
task load limit period = record { load = load; limit = limit; period = period }
