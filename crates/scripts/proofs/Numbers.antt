-- A number at the front of a text, read digit by digit.
use Rattle.std.proofs.Common.{◌≡◌, ℕ, zero, suc, ◌+◌, ◌-◌, ◌*◌, ◌^◌, ◌<◌, ◌≤◌, List, [], ◌∷◌, ◌++◌, length, get_or, take, drop, decimal, fold, sym, refl, ap, ◌∙◌, subst, ⊎_elim, arith, below_more}
use Rattle.scripts.specs.Fields.{byte_of}
use Rattle.scripts.specs.declared.number.End.{End}
use Rattle.scripts.specs.declared.number.End.TheVariants.{Space, LineFeed}
use Rattle.std.proofs.lemmas.Fmt.{decimal_digit, decimal_nonempty, decimal-digits_value, digits_decimal, first_decimal, decimal_injective, digits_value-decimal}
use Rattle.std.proofs.lemmas.List.{drop_at, drop_more, get_or_append_left, get_or_at, get_or-take, length-append, length-take-le, take-append-drop, take-append-le, take_at}
use Rattle.std.proofs.lemmas.Str.Parse.{IsNumeralModel, numerals_by_fold, tells_by_index}
use Rattle.std.proofs.lemmas.List.Sums.{fold_more}
use Rattle.std.proofs.lemmas.Bool.{cases_lt, cases_order}
use Rattle.std.specs.Int.{IsInRange}

-- one digit more
abbrev pub step : ℕ → ℕ → ℕ
step n c = n * 10 + (c - 48)

-- the number that digits write
abbrev pub read : List ℕ → ℕ
read ds = fold step 0 ds

abbrev Digits : List ℕ → Type 0
Digits ds = (i : ℕ) → i < length ds → IsInRange 48 57 (get_or ds i 0)

own : IsNumeralModel Digits read
own = numerals_by_fold Digits tells_by_index (fold step) (record { empty = λ n. refl; more = λ n c cs h. refl })

read_on : (n : ℕ) (ds : List ℕ) → n ≤ fold step n ds
read_on n [] = omega arith
read_on n (c ∷ ds) = omega (arith, read_on (step n c) ds)

folded_append : (n : ℕ) (ds es : List ℕ) → fold step n (ds ++ es) ≡ fold step (fold step n ds) es
folded_append n [] es = refl
folded_append n (d ∷ ds) es = folded_append (step n d) ds es

-- a front of the digits writes no more
front_le : (ds : List ℕ) (i : ℕ) → read (take i ds) ≤ read ds
front_le ds i = omega (arith, read_on (read (take i ds)) (drop i ds), folded_append 0 (take i ds) (drop i ds), ap read (take-append-drop i ds))

-- the bytes that end numbers stand below the digits
pub below_digits : (end : End) → byte_of end < 48
below_digits Space = omega arith
below_digits LineFeed = omega arith

no_digit : (end c : ℕ) → end < 48 → c ≡ end → IsInRange 48 57 c → ⊥
no_digit end c low same d = omega arith

-- the text begins with a number and the byte that ends it
record Begins (text : List ℕ) (end n m : ℕ) : Type 0 where
  some : 0 < m
  inside : m < length text
  at_end : get_or text m 0 ≡ end
  digits : (k : ℕ) → k < m → IsInRange 48 57 (get_or text k 0)
  lead : 1 < m → get_or text 0 0 ≡ 48 → ⊥
  front : (k : ℕ) → k ≤ m → read (take k text) ≤ n

no_lead : (n : ℕ) → n < 2 ^ 64 → 1 < length (decimal n) → get_or (decimal n) 0 0 ≡ 48 → ⊥
no_lead zero small h e = omega (arith, ap length (decimal_digit 0 (omega arith)))
no_lead (suc n) small h e = omega (arith, first_decimal (suc n) (omega arith) small)

begins : (text rest : List ℕ) (end n : ℕ) → n < 2 ^ 64 → text ≡ decimal n ++ end ∷ rest → Begins text end n (length (decimal n))
begins text rest end n small e =
    let some = decimal_nonempty n small in
    record {
      some = some;
      inside = omega (arith, ap length e, length-append (decimal n) (end ∷ rest));
      at_end = ap (λ l. get_or l (length (decimal n)) 0) e ∙ get_or_at (decimal n) end rest 0 (length (decimal n)) refl;
      digits = λ k l. subst (IsInRange 48 57) (sym (ap (λ t. get_or t k 0) e ∙ get_or_append_left (decimal n) (end ∷ rest) 0 k l)) (digits_decimal own n small k l);
      lead = λ l z. no_lead n small l (sym (ap (λ t. get_or t 0 0) e ∙ get_or_append_left (decimal n) (end ∷ rest) 0 0 some) ∙ z);
      front = λ k l. omega (arith, front_le (decimal n) k, digits_value-decimal own n small, ap read (ap (take k) e ∙ take-append-le k (decimal n) (end ∷ rest) l));
    }

-- a text has one number at its front, and one rest
pub same_number : (end n m : ℕ) (r s : List ℕ) → end < 48 → n < 2 ^ 64 → m < 2 ^ 64 → decimal n ++ end ∷ r ≡ decimal m ++ end ∷ s → (n ≡ m) × (r ≡ s)
same_number end n m r s ends hn hm e =
    let text = decimal n ++ end ∷ r in
    let b = begins text r end n hn refl in
    let c = begins text s end m hm e in
    let long : length (decimal n) ≡ length (decimal m) =
    ⊎_elim (λ same. same) (⊎_elim (λ l. absurd (no_digit end _ ends b.at_end (c.digits (length (decimal n)) l))) (λ l. absurd (no_digit end _ ends c.at_end (b.digits (length (decimal m)) l))))
    (cases_order (length (decimal n)) (length (decimal m))) in
    let front : decimal n ≡ decimal m = sym (take_at (decimal n) (end ∷ r) (length (decimal n)) refl) ∙ ap (take (length (decimal n))) e ∙ take_at (decimal m) (end ∷ s) (length (decimal n)) (sym long) in
    let back : end ∷ r ≡ end ∷ s = sym (drop_at (decimal n) (end ∷ r) (length (decimal n)) refl) ∙ ap (drop (length (decimal n))) e ∙ drop_at (decimal m) (end ∷ s) (length (decimal n)) (sym long) in
    (decimal_injective n m hn hm front, ap (drop 1) back)

-- the digits before i are read
pub record Reading (text : List ℕ) (most i value : ℕ) : Type 0 where
  pub digits : (k : ℕ) → k < i → IsInRange 48 57 (get_or text k 0)
  pub is : value ≡ read (take i text)
  pub small : value ≤ most
  pub lead : 1 < i → get_or text 0 0 ≡ 48 → ⊥

module _ (text : List ℕ) (end most i value : ℕ) (ends : end < 48) (bound : most ≤ 10 ^ 18) (r : Reading text most i value) where
  pub found : i < length text → 0 < i → get_or text i 0 ≡ end → (value ≤ most) × (text ≡ decimal value ++ end ∷ drop (i + 1) text)
  found l some at =
      let long : length (take i text) ≡ i = length-take-le i text (omega arith) in
      let few = r.small in
      let same = r.is in
      let first : get_or (take i text) 0 0 ≡ get_or text 0 0 = get_or-take i text 0 0 some in
      let written : decimal (read (take i text)) ≡ take i text =
      decimal-digits_value own (take i text) (λ k h. subst (IsInRange 48 57) (sym (get_or-take i text k 0 (omega arith))) (r.digits k (omega arith))) (omega arith)
      (λ z. ⊎_elim (λ e. omega arith) (⊎_elim (λ e. omega arith) (λ e. absurd (r.lead e (sym first ∙ z)))) (cases_order i 1)) (omega arith) in
      (few, sym (take-append-drop i text) ∙ (λ j. (sym written ∙ ap decimal (sym same)) j ++ (drop_more text i 0 l ∙ ap (λ c. c ∷ drop (i + 1) text) at) j))

  pub next : i < length text → IsInRange 48 57 (get_or text i 0) → (i ≡ 1 → get_or text 0 0 ≡ 48 → ⊥) → step value (get_or text i 0) ≤ most → Reading text most (i + 1) (step value (get_or text i 0))
  next l digit lead few = record {
    digits = below_more (λ k. IsInRange 48 57 (get_or text k 0)) i r.digits digit;
    is = ap (λ v. step v (get_or text i 0)) r.is ∙ sym (fold_more step 0 text i 0 l);
    small = few;
    lead = λ h z. ⊎_elim (λ e. lead e z) (⊎_elim (λ e. omega arith) (λ e. r.lead e z)) (cases_order i 1);
  }

  -- no number up to most and its end stand at the front
  module _ (n : ℕ) (rest : List ℕ) (few : n ≤ most) (e : text ≡ decimal n ++ end ∷ rest) where
    b : Begins text end n (length (decimal n))
    b = begins text rest end n (omega arith) e

    -- before its end there are digits, and at its end is none
    reaches : i ≤ length (decimal n)
    reaches = ⊎_elim (λ l. absurd (no_digit end _ ends b.at_end (r.digits (length (decimal n)) l))) (λ l. l) (cases_lt (length (decimal n)) i)

    before : (get_or text i 0 ≡ end → ⊥) → i < length (decimal n)
    before other =
        ⊎_elim (λ same. absurd (other (ap (λ k. get_or text k 0) same ∙ b.at_end))) (⊎_elim (λ l. l) (λ l. absurd (let h = reaches in omega arith))) (cases_order i (length (decimal n)))

    pub not_empty : i ≡ 0 → get_or text i 0 ≡ end → ⊥
    not_empty z at = let some = b.some in no_digit end (get_or text i 0) ends at (b.digits i (omega arith))

    pub not_other : (get_or text i 0 ≡ end → ⊥) → (IsInRange 48 57 (get_or text i 0) → ⊥) → ⊥
    not_other other odd = odd (b.digits i (before other))

    pub not_lead : i ≡ 1 → get_or text 0 0 ≡ 48 → (get_or text i 0 ≡ end → ⊥) → ⊥
    not_lead one z other = let l = before other in b.lead (omega arith) z

    pub not_large : i < length text → (get_or text i 0 ≡ end → ⊥) → most < step value (get_or text i 0) → ⊥
    not_large l other large =
        let h = before other in
        omega (arith, b.front (i + 1) (omega arith), fold_more step 0 text i 0 l, ap (λ v. step v (get_or text i 0)) r.is)

    pub not_over : length text ≤ i → ⊥
    not_over l = omega (arith, reaches, b.inside)
