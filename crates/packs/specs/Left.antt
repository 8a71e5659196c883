-- What an iterator over a pack has left.
use Rattle.std.specs.Prelude.{ℕ, List}
use Rattle.packs.specs.Items.{items}
use Rattle.packs.specs.declared.items.Items.{Items}

abbrev pub left_in : Items → List (List ℕ)
left_in s = items s.rest.now
