-- No line of a valid script lies past the horizon, so none does that an agenda has of it.
use Rattle.std.proofs.Common.{◌≡◌, ℕ, zero, suc, ◌≤◌, true, List, [], ◌∷◌, map, nat_le, slice_index_or, Ok, Err, Result, refl, sym, subst, arith}
use Rattle.limits.specs.Ranges.{horizon}
use Rattle.limits.specs.declared.fault.Fault.{Fault}
use Rattle.scripts.specs.Agendas.{Loaded, coming}
use Rattle.scripts.specs.Dues.{line_at, time_order}
use Rattle.scripts.specs.Lines.{valid_line, valid_lines}
use Rattle.scripts.specs.declared.agenda.Agenda.{Agenda}
use Rattle.scripts.specs.declared.due.Due.{Due}
use Rattle.scripts.specs.declared.line.Command.TheVariants.{Wait}
use Rattle.scripts.specs.declared.line.Line.{Line}
use Rattle.std.proofs.lemmas.Bool.{and_parts, leb-true}
use Rattle.timer_sheets.specs.Timely.{Timely}

valid_early : (ls : List Line) (k : ℕ) → valid_lines ls ≡ true → (slice_index_or ls k (record { instant = 0; command = Wait })).instant ≤ horizon
valid_early [] k v = omega arith
valid_early (l ∷ ls) zero v = leb-true l.instant horizon (and_parts (nat_le l.instant horizon) _ (and_parts (valid_line l) (valid_lines ls) v).0).0
valid_early (l ∷ ls) (suc k) v = valid_early ls k (and_parts (valid_line l) (valid_lines ls) v).1

lines_early : (ls : List Line) → valid_lines ls ≡ true → (ds : List Due) → Timely (map (line_at ls) ds)
lines_early ls v [] = tt
lines_early ls v (d ∷ ds) = (valid_early ls d.place v, lines_early ls v ds)

order_early : (ls : List Line) → valid_lines ls ≡ true → Timely (time_order ls)
order_early ls v = lines_early ls v _

-- a valid script's lines, loaded
pub loaded_early : (ls : List Line) (old new : Agenda) (r : Result (Unit {0}) Fault) → valid_lines ls ≡ true → ((f : Fault) → r ≡ Err f → ⊥) → Loaded ls old new r → Timely (coming new)
loaded_early ls old new (Ok _) v n l = subst Timely (sym l.1) (order_early ls v)
loaded_early ls old new (Err f) v n l = absurd (n f refl)
