-- What a trace counts: ticks by the instant at which they begin.
use Rattle.std.proofs.Common.{◌≡◌, ℕ, ◌+◌, ◌<◌, ◌≤◌, Bool, true, false, cond, ◌&&◌, ltb, leb, refl, ap, ◌∙◌, ⊎_elim, arith}
use Rattle.share.specs.Answers.{Answer, timed, told}
use Rattle.share.specs.Traces.{Trace, clock_of, count, nothing, said}
use Rattle.share.specs.declared.calls.Call.{Call}
use Rattle.std.proofs.lemmas.Bool.{and_left, and_right, both_ways, cases_lt, cond-false, le-leb, le-ltb, lt-leb, lt-ltb, ltb-true}

-- one answer more: a tick (b) with P (d) at the instant t counts where it lies in the span
abbrev adds : Bool → Bool → ℕ → ℕ → ℕ → ℕ → ℕ
adds b d t x y n = cond (b && (d && (leb x t && ltb t y))) (n + 1) n

adds_past : (b d : Bool) (t x y z n : ℕ) → (b ≡ true → t < y) → (b ≡ true → t < z) → adds b d t x y n ≡ adds b d t x z n
adds_past false d t x y z n h k = refl
adds_past true false t x y z n h k = refl
adds_past true true t x y z n h k = simp (lt-ltb t y (h refl), lt-ltb t z (k refl))

-- an answer that takes time ends later than it begins
timed_later : (a : Answer) (t y : ℕ) → t + (told a).ticks ≤ y → timed a ≡ true → t < y
timed_later a t y h b = omega (arith, ltb-true 0 (told a).ticks b)

-- what lies past the clock does not matter
pub count_past : (P : Answer → Bool) (p : Trace) (x y z : ℕ) → clock_of p ≤ y → clock_of p ≤ z → count P p x y ≡ count P p x z
count_past P nothing x y z h k = refl
count_past P (said p c a) x y z h k =
    let r = count_past P p x y z (omega arith) (omega arith) in
    adds_past (timed a) (P a) (clock_of p) x y z (count P p x y) (timed_later a (clock_of p) y h) (timed_later a (clock_of p) z k) ∙ ap (adds (timed a) (P a) (clock_of p) x z) r

adds_not : (b d : Bool) (t x y n : ℕ) → (b ≡ true → (leb x t && ltb t y) ≡ false) → adds b d t x y n ≡ n
adds_not false d t x y n h = refl
adds_not true false t x y n h = refl
adds_not true true t x y n h = cond-false _ _ _ (h refl)

-- no tick lies at the clock or past it
pub count_none : (P : Answer → Bool) (p : Trace) (x y : ℕ) → clock_of p ≤ x → count P p x y ≡ 0
count_none P nothing x y h = refl
count_none P (said p c a) x y h =
    adds_not (timed a) (P a) (clock_of p) x y (count P p x y) (λ b. and_left (leb x (clock_of p)) (ltb (clock_of p) y) (lt-leb x (clock_of p) (timed_later a (clock_of p) x h b)))
    ∙ count_none P p x y (omega arith)

-- nothing lies in an empty span
pub count_empty : (P : Answer → Bool) (p : Trace) (x y : ℕ) → y ≤ x → count P p x y ≡ 0
count_empty P nothing x y h = refl
count_empty P (said p c a) x y h = adds_not (timed a) (P a) (clock_of p) x y (count P p x y) (λ _. go (clock_of p)) ∙ count_empty P p x y h
  where
    go : (t : ℕ) → (leb x t && ltb t y) ≡ false
    go t = ⊎_elim (λ (l : t < x). and_left (leb x t) (ltb t y) (lt-leb x t l)) (λ (l : x ≤ t). and_right (leb x t) (ltb t y) (le-ltb t y (omega arith))) (cases_lt t x)

-- a later answer does not count in a span that is over
pub count_over : (P : Answer → Bool) (p : Trace) (c : Call) (a : Answer) (x y : ℕ) → y ≤ clock_of p → count P (said p c a) x y ≡ count P p x y
count_over P p c a x y h = adds_not (timed a) (P a) (clock_of p) x y (count P p x y) (λ _. and_right (leb x (clock_of p)) (ltb (clock_of p) y) (le-ltb (clock_of p) y h))

-- nor does one that takes no time, or has not P
pub count_idle : (P : Answer → Bool) (p : Trace) (c : Call) (a : Answer) (x y : ℕ) → (timed a && P a) ≡ false → count P (said p c a) x y ≡ count P p x y
count_idle P p c a x y h = go (timed a) (P a) h
  where
    go : (b d : Bool) → (b && d) ≡ false → adds b d (clock_of p) x y (count P p x y) ≡ count P p x y
    go false d h = refl
    go true false h = refl
    go true true h = absurd (both_ways true h refl)

-- a tick with P counts
pub count_one : (P : Answer → Bool) (p : Trace) (c : Call) (a : Answer) (x y : ℕ) → timed a ≡ true → P a ≡ true → x ≤ clock_of p → clock_of p < y → count P (said p c a) x y ≡ count P p x y + 1
count_one P p c a x y r h k l = simp (r, h, le-leb x (clock_of p) k, lt-ltb (clock_of p) y l)

adds_split : (b d : Bool) (t x y z n m k : ℕ) → x ≤ y → y ≤ z → n ≡ m + k → adds b d t x z n ≡ adds b d t x y m + adds b d t y z k
adds_split false d t x y z n m k h l e = e
adds_split true false t x y z n m k h l e = e
adds_split true true t x y z n m k h l e =
    ⊎_elim
    (λ (o : t < x). simp (lt-leb x t o, lt-leb y t (omega arith)) e)
    (λ (o : x ≤ t).
    ⊎_elim
    (λ (q : t < y). simp (le-leb x t o, lt-leb y t q, lt-ltb t y q, lt-ltb t z (omega arith)) (omega arith))
    (λ (q : y ≤ t).
    ⊎_elim
    (λ (r : t < z). simp (le-leb x t o, le-leb y t q, le-ltb t y q, lt-ltb t z r) (omega arith))
    (λ (r : z ≤ t). simp (le-leb x t o, le-leb y t q, le-ltb t y q, le-ltb t z r) e)
    (cases_lt t z))
    (cases_lt t y))
    (cases_lt t x)

-- a span is its two parts
pub count_split : (P : Answer → Bool) (p : Trace) (x y z : ℕ) → x ≤ y → y ≤ z → count P p x z ≡ count P p x y + count P p y z
count_split P nothing x y z h k = refl
count_split P (said p c a) x y z h k = adds_split (timed a) (P a) (clock_of p) x y z (count P p x z) (count P p x y) (count P p y z) h k (count_split P p x y z h k)

pub count_mono : (P : Answer → Bool) (p : Trace) (x y z : ℕ) → y ≤ z → count P p x y ≤ count P p x z
count_mono P p x y z h =
    ⊎_elim
    (λ (l : y < x). omega (arith, count_empty P p x y (omega arith)))
    (λ (l : x ≤ y). omega (arith, count_split P p x y z l h))
    (cases_lt y x)
