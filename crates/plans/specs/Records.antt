-- The 16 bytes of a record, as they are read and as they are written.
use Rattle.std.specs.Prelude.{ℕ, ◌+◌, ◌*◌, List, ◌∷◌, ◌++◌, take, drop, slice_index}
use Rattle.plans.specs.declared.record.Record.{Record}
use Rattle.std.specs.Int.{from_le_bytes, to_le_bytes, w16, w32}

-- the number in the two bytes from i on, the low byte first
abbrev pub pair : List ℕ → ℕ → ℕ
pair bytes i = from_le_bytes w16 (take 2 (drop i bytes))

-- the number in the four bytes from i on
abbrev pub word : List ℕ → ℕ → ℕ
word bytes i = from_le_bytes w32 (take 4 (drop i bytes))

-- the record at a place, counted from 0
abbrev pub record_at : List ℕ → ℕ → Record
record_at bytes place = record {
  kind = slice_index bytes (16 * place);
  number = slice_index bytes (16 * place + 1);
  zeros = pair bytes (16 * place + 2);
  first = word bytes (16 * place + 4);
  second = word bytes (16 * place + 8);
  third = word bytes (16 * place + 12);
}

-- a record as it is written
abbrev pub record_bytes : Record → List ℕ
record_bytes r =
    (r.kind ∷ r.number ∷ to_le_bytes w16 r.zeros) ++ (to_le_bytes w32 r.first ++ (to_le_bytes w32 r.second ++ to_le_bytes w32 r.third))
