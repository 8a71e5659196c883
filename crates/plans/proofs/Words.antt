-- Numbers and records in bytes: read and written back they are the same.
use Rattle.std.proofs.Common.{◌≡◌, ℕ, zero, suc, ◌+◌, ◌*◌, ◌^◌, ◌<◌, ◌≤◌, List, [], ◌∷◌, ◌++◌, map, length, get_or, take, drop, sym, refl, ap, ◌∙◌, arith}
use Rattle.plans.specs.Faults.{records}
use Rattle.plans.specs.Records.{pair, record_at, record_bytes, word}
use Rattle.plans.specs.declared.record.Record.{Record}
use Rattle.std.proofs.lemmas.Nat.{from_le_bytes-to_le_bytes_2, from_le_bytes-to_le_bytes_4, le_bytes_2, le_bytes_4}
use Rattle.std.proofs.lemmas.List.FromFn.{get_or-map-range_with_len, length-map-range_with_len}
use Rattle.std.proofs.lemmas.List.{drop-drop, drop_more, drop-take, get_or-drop, get_or-take, length-append, length-drop, length-take-le, same_lists, take_all, take-append-drop, take-take}
use Rattle.std.specs.Int.{from_le_bytes, to_le_bytes, w16, w32}
use Rattle.std.specs.List.{range_with_len, flat_map, AllByRecursion as All}

small_take : (n : ℕ) (xs : List ℕ) → ((k : ℕ) → get_or xs k 0 < 256) → (k : ℕ) → get_or (take n xs) k 0 < 256
small_take zero xs s k = omega arith
small_take (suc n) [] s k = omega arith
small_take (suc n) (x ∷ xs) s zero = s 0
small_take (suc n) (x ∷ xs) s (suc k) = small_take n xs (λ j. s (suc j)) k

take_split : {X : Type 0} (m n : ℕ) (xs : List X) → take (m + n) xs ≡ take m xs ++ take n (drop m xs)
take_split m n xs =
    sym (take-append-drop m (take (m + n) xs)) ∙ (λ i. take-take m (m + n) xs (omega arith) i ++ drop-take m n xs i)

module _ (bytes : List ℕ) (small : (i : ℕ) → get_or bytes i 0 < 256) where
  part_small : (n i k : ℕ) → get_or (take n (drop i bytes)) k 0 < 256
  part_small n i = small_take n (drop i bytes) (λ k. rw (get_or-drop i bytes k 0) (small (i + k)))

  part_long : (n i : ℕ) → i + n ≤ length bytes → length (take n (drop i bytes)) ≡ n
  part_long n i h = length-take-le n (drop i bytes) (omega (arith, length-drop i bytes))

  -- the four bytes that a number was read from
  word_back : (i : ℕ) → i + 4 ≤ length bytes → to_le_bytes w32 (word bytes i) ≡ take 4 (drop i bytes)
  word_back i h = le_bytes_4 (take 4 (drop i bytes)) _ (part_long 4 i h) (part_small 4 i) refl

  first_four : (i : ℕ) → i + 4 ≤ length bytes → get_or bytes i 0 ∷ get_or bytes (i + 1) 0 ∷ to_le_bytes w16 (pair bytes (i + 2)) ≡ take 4 (drop i bytes)
  first_four i h =
      let two : i + 1 + 1 ≡ i + 2 = omega arith in
      let back = le_bytes_2 (take 2 (drop (i + 2) bytes)) _ (part_long 2 (i + 2) (omega arith)) (part_small 2 (i + 2)) refl in
      rw (drop_more bytes i 0 (omega arith), drop_more bytes (i + 1) 0 (omega arith), two) (ap (λ l. get_or bytes i 0 ∷ get_or bytes (i + 1) 0 ∷ l) back)

  next : (m i j : ℕ) → j ≡ i + 4 → take (4 + m) (drop i bytes) ≡ take 4 (drop i bytes) ++ take m (drop j bytes)
  next m i j e = take_split 4 m (drop i bytes) ∙ ap (λ l. take 4 (drop i bytes) ++ take m l) (drop-drop 4 i bytes ∙ ap (λ k. drop k bytes) (sym e))

  -- the bytes that a record was read from
  record_bytes_lem : (a : ℕ) → 16 * a + 16 ≤ length bytes → record_bytes (record_at bytes a) ≡ take 16 (drop (16 * a) bytes)
  record_bytes_lem a h =
      let heads = first_four (16 * a) (omega arith) in
      let one = word_back (16 * a + 4) (omega arith) in
      let two = word_back (16 * a + 8) (omega arith) in
      let three = word_back (16 * a + 12) (omega arith) in
      (λ i. heads i ++ (one i ++ (two i ++ three i)))
      ∙ sym (next 12 (16 * a) (16 * a + 4) refl
      ∙ ap (λ l. take 4 (drop (16 * a) bytes) ++ l) (next 8 (16 * a + 4) (16 * a + 8) (omega arith)
      ∙ ap (λ l. take 4 (drop (16 * a + 4) bytes) ++ l) (next 4 (16 * a + 8) (16 * a + 12) (omega arith))))

  -- bytes of a whole number of records are the bytes of these
  records_bytes : (n a : ℕ) → 16 * a + 16 * n ≤ length bytes → flat_map record_bytes (map (record_at bytes) (range_with_len a n)) ≡ take (16 * n) (drop (16 * a) bytes)
  records_bytes zero a h = refl
  records_bytes (suc n) a h =
      let more : 16 * suc n ≡ 16 + 16 * n = omega arith in
      let later : 16 * a + 16 ≡ 16 * (a + 1) = omega arith in
      (λ i. record_bytes_lem a (omega arith) i ++ records_bytes n (a + 1) (omega arith) i)
      ∙ ap (λ k. take 16 (drop (16 * a) bytes) ++ take (16 * n) (drop k bytes)) (sym later)
      ∙ ap (λ l. take 16 (drop (16 * a) bytes) ++ take (16 * n) l) (sym (drop-drop 16 (16 * a) bytes))
      ∙ sym (take_split 16 (16 * n) (drop (16 * a) bytes))
      ∙ ap (λ k. take k (drop (16 * a) bytes)) (sym more)

  pub read_back : (n : ℕ) → length bytes ≡ 16 * n → flat_map record_bytes (records bytes n) ≡ bytes
  read_back n h = records_bytes n 0 (omega arith) ∙ take_all (16 * n) bytes (omega arith)

-- each part of a record fits its bytes
pub record Fit (r : Record) : Type 0 where
  pub kind_fits : r.kind < 256
  pub number_fits : r.number < 256
  pub zeros_fit : r.zeros < 65536
  pub first_fits : r.first < 2 ^ 32
  pub second_fits : r.second < 2 ^ 32
  pub third_fits : r.third < 2 ^ 32

-- the first record, read back
record_back : (r : Record) (rest : List ℕ) → Fit r → record_at (record_bytes r ++ rest) 0 ≡ r
record_back r rest f =
    λ i. record {
      kind = r.kind;
      number = r.number;
      zeros = from_le_bytes-to_le_bytes_2 r.zeros f.zeros_fit i;
      first = from_le_bytes-to_le_bytes_4 r.first f.first_fits i;
      second = from_le_bytes-to_le_bytes_4 r.second f.second_fits i;
      third = from_le_bytes-to_le_bytes_4 r.third f.third_fits i;
    }

module _ (bytes : List ℕ) where
  later : (m n : ℕ) → n ≡ 16 + m → drop n bytes ≡ drop m (drop 16 bytes)
  later m n e = ap (λ k. drop k bytes) e ∙ sym (drop-drop m 16 bytes)

  shift : (m n : ℕ) → n ≡ 16 + m → get_or bytes n 0 ≡ get_or (drop 16 bytes) m 0
  shift m n e = ap (λ k. get_or bytes k 0) e ∙ sym (get_or-drop 16 bytes m 0)

  word_shift : (m n : ℕ) → n ≡ 16 + m → word bytes n ≡ word (drop 16 bytes) m
  word_shift m n e = ap (λ l. from_le_bytes w32 (take 4 l)) (later m n e)

  -- the records after the first are those of the bytes after it
  record_later : (j : ℕ) → record_at bytes (suc j) ≡ record_at (drop 16 bytes) j
  record_later j =
      λ i. record {
        kind = shift (16 * j) (16 * suc j) (omega arith) i;
        number = shift (16 * j + 1) (16 * suc j + 1) (omega arith) i;
        zeros = from_le_bytes w16 (take 2 (later (16 * j + 2) (16 * suc j + 2) (omega arith) i));
        first = word_shift (16 * j + 4) (16 * suc j + 4) (omega arith) i;
        second = word_shift (16 * j + 8) (16 * suc j + 8) (omega arith) i;
        third = word_shift (16 * j + 12) (16 * suc j + 12) (omega arith) i;
      }

-- records that are written can be read back
pub record_written : (rs : List Record) (j : ℕ) (d : Record) → All Fit rs → j < length rs → record_at (flat_map record_bytes rs) j ≡ get_or rs j d
record_written [] j d f h = absurd (omega arith)
record_written (r ∷ rs) zero d f h = record_back r (flat_map record_bytes rs) f.0
record_written (r ∷ rs) (suc j) d f h = record_later (flat_map record_bytes (r ∷ rs)) j ∙ record_written rs j d f.1 (omega arith)

pub length_written : (rs : List Record) → length (flat_map record_bytes rs) ≡ 16 * length rs
length_written [] = refl
length_written (r ∷ rs) = omega (arith, length_written rs, length-append (record_bytes r) (flat_map record_bytes rs))

pub records_written : (rs : List Record) (j : ℕ) → All Fit rs → j ≤ length rs → records (flat_map record_bytes rs) j ≡ take j rs
records_written rs j f h =
    let long : length (take j rs) ≡ j = length-take-le j rs h in
    let counted = length-map-range_with_len (record_at (flat_map record_bytes rs)) 0 j in
    same_lists _ _ (omega arith) (λ k d l. get_or-map-range_with_len (record_at (flat_map record_bytes rs)) 0 j k k d (omega arith) (omega arith) ∙ record_written rs k d f (omega arith) ∙ sym (get_or-take j rs k d (omega arith)))
