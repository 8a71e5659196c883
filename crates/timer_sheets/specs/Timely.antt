-- Lines that lie by the horizon.
use Rattle.std.specs.Prelude.{◌≤◌, List}
use Rattle.limits.specs.Ranges.{horizon}
use Rattle.scripts.specs.declared.line.Line.{Line}
use Rattle.std.specs.List.{AllByRecursion}

abbrev pub Timely : List Line → Type 0
Timely ls = AllByRecursion (λ line. line.instant ≤ horizon) ls
