-- What is answered where bytes are read as a script.
use Rattle.std.specs.Prelude.{◌≡◌, ℕ, ◌+◌, ◌<◌, ◌≤◌, true, ◌⊎◌, List, ◌++◌, length, Ok, Err, vec_items, Result, ◌≢◌}
use Rattle.limits.specs.declared.fault.Fault.{Fault}
use Rattle.limits.specs.declared.fault.Layer.TheVariants.{Script as ScriptLayer}
use Rattle.limits.specs.declared.fault.ReadError.{ReadError}
use Rattle.limits.specs.declared.fault.ReadError.TheVariants.{Fault as AtFault, NoMemory}
use Rattle.limits.specs.declared.refusal.Refusal.TheVariants.{ScriptForm}
use Rattle.scripts.specs.Lines.{line_text_of, script_text, valid_line, valid_lines}
use Rattle.scripts.specs.declared.line.Line.{Line}
use Rattle.scripts.specs.declared.script.Script.{Script}

-- the lines of a script, in their own order
abbrev pub lines_of : Script → List Line
lines_of s = vec_items s.lines

abbrev pub text_of : Script → List ℕ
text_of s = script_text (lines_of s)

abbrev pub script_fault_of : ℕ → Fault
script_fault_of place = record { layer = ScriptLayer; refusal = ScriptForm; place = place }

-- a text begins with no line
abbrev pub NoLine : List ℕ → Type 0
NoLine text = (l : Line) (rest : List ℕ) → valid_line l ≡ true → text ≢ line_text_of l ++ rest

-- after lines that are in order something is left, and it begins with no line, or would be line 1,025; the place counts that line from 1
pub record FirstBad (bytes : List ℕ) (place : ℕ) : Type 0 where
  pub good : List Line
  pub rest : List ℕ
  pub split : bytes ≡ script_text good ++ rest
  pub valid : valid_lines good ≡ true
  pub within : length good ≤ 1024
  pub counted : place ≡ length good + 1
  pub some : 0 < length rest
  pub bad : (place ≡ 1025) ⊎ NoLine rest

-- no script has these bytes, and the fault is at their first bad line; want of memory says nothing of the bytes
abbrev pub NotRead : List ℕ → ReadError → Type 0
NotRead bytes (AtFault f) = (f ≡ script_fault_of f.place) × FirstBad bytes f.place × ((s : Script) → bytes ≢ text_of s)
NotRead bytes NoMemory = Unit {0}

-- s is the script that has these bytes: any other that has them has the same lines
pub record Reads (bytes : List ℕ) (s : Script) : Type 0 where
  pub written : bytes ≡ text_of s
  pub only : (t : Script) → bytes ≡ text_of t → lines_of t ≡ lines_of s

-- the answer to bytes: the script whose text they are, which is valid by its type, or the first line at fault
abbrev pub Read : List ℕ → Result Script ReadError → Type 0
Read bytes (Ok s) = Reads bytes s
Read bytes (Err e) = NotRead bytes e
