-- What becomes of marks.
use Rattle.std.proofs.Common.{◌≡◌, ℕ, zero, suc, ◌+◌, ◌-◌, ◌<◌, ◌≤◌, cond, eqb, ◌≢◌, List, length, replicate, set, Some, None, sym, refl, ap, ◌∙◌, inl, inr, arith}
use lib.ListN.{get_or-replicate}
use Rattle.bits.proofs.Bits.{bit_below, bit_of_zero}
use Rattle.bits.specs.Words.{bit}
use Rattle.bits.specs.declared.server_set.ServerSet.{ServerSet}
use Rattle.limits.specs.Ranges.{horizon}
use Rattle.queues.specs.Dues.{First}
use Rattle.queues.specs.Finds.{clash}
use Rattle.queues.specs.Sizes.{weight}
use Rattle.std.proofs.lemmas.Bool.{cases_eq, cases_lt}
use Rattle.windows.proofs.Summaries.{word_else, word_here}
use Rattle.windows.specs.Marked.{Fine, Placed, Single, Summed, at, marked, spot, spot_from, spot_hit, spot_miss, word}

-- a bit that no set has
pub spot_none : (sets : List ServerSet) (base n p : ℕ) → ((i : ℕ) → i < n → at sets i p ≡ 0) → spot sets base n p ≡ None
spot_none sets base zero p h = refl
spot_none sets base (suc n) p h = spot_miss sets base n p (λ e. omega (arith, h n (omega arith))) ∙ spot_none sets base n p (λ i l. h i (omega arith))

-- and back
pub spot_clear : (sets : List ServerSet) (base n p : ℕ) → spot sets base n p ≡ None → (i : ℕ) → i < n → at sets i p ≡ 0
spot_clear sets base zero p e i l = absurd (omega arith)
spot_clear sets base (suc n) p e i l = elim (cases_eq (at sets n p) 1) [
  | inl u ↦ absurd (clash e (spot_hit sets base n p u))
  | inr u ↦ elim (cases_eq i n) [
    | inl v ↦ rw v (omega (arith, bit_below (word sets n) p))
    | inr v ↦ spot_clear sets base n p (sym (spot_miss sets base n p u) ∙ e) i (omega arith)
  ]
]

-- a bit that a set has, and none after it
pub spot_to : (sets : List ServerSet) (base n i p : ℕ) → ((j : ℕ) → i < j → j < n → at sets j p ≡ 0) → i < n → at sets i p ≡ 1 → spot sets base n p ≡ Some (base + i)
spot_to sets base zero i p h l e = absurd (omega arith)
spot_to sets base (suc n) i p h l e = elim (cases_eq i n) [
  | inl u ↦ rw u (spot_hit sets base n p (ap (λ z. at sets z p) (sym u) ∙ e))
  | inr u ↦
      spot_miss sets base n p (λ q. omega (arith, h n (omega arith) (omega arith)))
      ∙ spot_to sets base n i p (λ j a b. h j a (omega arith)) (omega arith) e
]

-- sets with the same bits
pub spot_same : (xs ys : List ServerSet) (base n p : ℕ) → ((i : ℕ) → at ys i p ≡ at xs i p) → spot ys base n p ≡ spot xs base n p
spot_same xs ys base zero p h = refl
spot_same xs ys base (suc n) p h = λ k. cond (eqb (h n k) 1) (Some (base + n)) (spot_same xs ys base n p h k)

-- the bit of a server
pub marked_at : (sets : List ServerSet) (base s : ℕ) → 1 ≤ s → marked sets base s ≡ spot sets base 64 (s - 1)
marked_at sets base zero l = absurd (omega arith)
marked_at sets base (suc p) l = ap (spot sets base 64) (let e : p ≡ suc p - 1 = omega arith in e)

-- a summary of 0
pub empty_sets : (sets : List ServerSet) (summary : ℕ) → Summed sets summary → summary ≡ 0 → (i p : ℕ) → i < 64 → at sets i p ≡ 0
empty_sets sets summary h z i p l =
    let b : bit summary i ≡ 0 = ap (λ (x : ℕ). bit x i) z ∙ bit_of_zero i in
    let e : word sets i ≡ 0 = omega (arith, h i l) in
    ap (λ (x : ℕ). bit x p) e ∙ bit_of_zero p

-- the lowest server of the first set that has one is the first entry
pub marked_first : (sets : List ServerSet) (base i s : ℕ) → Single sets → 1 ≤ s → i < 64 → at sets i (s - 1) ≡ 1 → ((j m : ℕ) → j < i → at sets j m ≡ 0) → ((m : ℕ) → m < s - 1 → at sets i m ≡ 0) → First (marked sets base) (Some (record { instant = base + i; server = s }))
marked_first sets base i s single one l stands before lower =
    (marked_at sets base s one ∙ spot_to sets base 64 i (s - 1) (λ j a b. omega (arith, single i j (s - 1) a b, stands)) l stands, least)
  where
    least : (k t : ℕ) → marked sets base k ≡ Some t → (base + i ≤ t) × (base + i ≡ t → s ≤ k)
    least zero t h = absurd (clash refl h)
    least (suc p) t h =
        let r = spot_from sets base 64 p t h in
        elim (cases_lt r.0 i) [
          | inl a ↦ absurd (omega (arith, before r.0 p a, r.2))
          | inr a ↦ (
            omega arith,
            λ z. elim (cases_lt p (s - 1)) [
              | inl b ↦
                  let same : r.0 ≡ i = omega arith in
                  absurd (omega (arith, lower p b, r.2, ap (λ j. at sets j p) same))
              | inr b ↦ omega arith
            ],
          )
        ]

-- sets without servers
module _ (xs : List ServerSet) (none : (i p : ℕ) → i < 64 → at xs i p ≡ 0) where
  pub bare_single : Single xs
  bare_single i j p l m = omega (arith, none i p (omega arith), none j p m)

  -- the base may be any
  pub bare_placed : (base : ℕ) → Placed xs base
  bare_placed base i p l e = absurd (omega (arith, none i p l))

  pub bare_marked : (base s : ℕ) → marked xs base s ≡ None
  bare_marked base zero = refl
  bare_marked base (suc p) = spot_none xs base 64 p (λ i l. none i p l)

-- the sets of new marks
abbrev pub blanks : List ServerSet
blanks = replicate 64 (record { word = 0 })

blank_word : (i : ℕ) → i < 64 → word blanks i ≡ 0
blank_word i l = ap (λ (x : ServerSet). x.word) (get_or-replicate 64 i (record { word = 0 }) (record { word = 0 }) l)

pub blank : (i p : ℕ) → i < 64 → at blanks i p ≡ 0
blank i p l = ap (λ (x : ℕ). bit x p) (blank_word i l) ∙ bit_of_zero p

-- no marks
pub blank_fine : Fine 0 blanks 0 (record { word = 0 })
blank_fine = record {
  early = omega arith;
  summed = λ i l. let e = blank_word i l in let z = bit_of_zero i in omega arith;
  single = bare_single blanks blank;
  placed = bare_placed blanks blank 0;
  gathered = λ p. bit_of_zero p ∙ ap weight (sym (bare_marked blanks blank 0 (p + 1)));
}

-- the sets with a new one among them, which differs at one place
module _ (xs : List ServerSet) (base r p : ℕ) (w : ServerSet) (inside : r < length xs) (others : (j : ℕ) → j ≢ p → bit w.word j ≡ at xs r j) where
  abbrev ys : List ServerSet
  ys = set xs r w

  here : (j : ℕ) → at ys r j ≡ bit w.word j
  here j = ap (λ x. bit x j) (word_here xs r w inside)

  there : (i j : ℕ) → i ≢ r → at ys i j ≡ at xs i j
  there i j u = ap (λ x. bit x j) (word_else xs r i w u)

  column : (j : ℕ) → j ≢ p → (i : ℕ) → at ys i j ≡ at xs i j
  column j ne i = elim (cases_eq i r) [
    | inl u ↦ rw u (here j ∙ others j ne)
    | inr u ↦ there i j u
  ]

  pub marked_rest : (k : ℕ) → (k ≡ p + 1 → ⊥) → marked ys base k ≡ marked xs base k
  marked_rest zero u = refl
  marked_rest (suc j) u = spot_same xs ys base 64 j (column j (λ e. u (omega arith)))

  -- the place was empty in every set, and is now taken in this one
  module _ (short : r < 64) (small : p < 64) (fits : base + r ≤ horizon) (single : Single xs) (placed : Placed xs base) (set_here : bit w.word p ≡ 1) (absent : (i : ℕ) → i < 64 → at xs i p ≡ 0) where
    else_none : (i : ℕ) → i < 64 → i ≢ r → at ys i p ≡ 0
    else_none i l u = there i p u ∙ absent i l

    pub set_single : Single ys
    set_single i j q l m = elim (cases_eq q p) [
      | inl e ↦ rw e (elim (cases_eq i r) [
        | inl u ↦ omega (arith, bit_below (word ys i) p, else_none j m (λ v. omega arith))
        | inr u ↦ omega (arith, bit_below (word ys j) p, else_none i (omega arith) u)
      ])
      | inr e ↦ omega (arith, single i j q l m, column q e i, column q e j)
    ]

    pub set_placed : Placed ys base
    set_placed i q l h = elim (cases_eq q p) [
      | inl e ↦ elim (cases_eq i r) [
        | inl u ↦ (omega arith, omega arith)
        | inr u ↦ absurd (omega (arith, else_none i l u, ap (at ys i) e))
      ]
      | inr e ↦ placed i q l (sym (column q e i) ∙ h)
    ]

    pub set_spot : spot ys base 64 p ≡ Some (base + r)
    set_spot = spot_to ys base 64 r p (λ j a b. else_none j b (λ e. omega arith)) short (here p ∙ set_here)

  -- the place was taken in this set, and is now empty
  module _ (short : r < 64) (single : Single xs) (placed : Placed xs base) (was : at xs r p ≡ 1) (cleared : bit w.word p ≡ 0) where
    none : (i : ℕ) → i < 64 → at ys i p ≡ 0
    none i l = elim (cases_eq i r) [
      | inl u ↦ rw u (here p ∙ cleared)
      | inr u ↦ elim (cases_lt i r) [
        | inl v ↦ omega (arith, there i p u, single i r p v short)
        | inr v ↦ omega (arith, there i p u, single r i p (omega arith) l)
      ]
    ]

    fewer : (i q : ℕ) → i < 64 → at ys i q ≤ at xs i q
    fewer i q l = elim (cases_eq q p) [
      | inl u ↦ rw u (omega (arith, none i l))
      | inr u ↦ omega (arith, column q u i)
    ]

    pub clear_single : Single ys
    clear_single i j q l m = omega (arith, single i j q l m, fewer i q (omega arith), fewer j q m)

    pub clear_placed : Placed ys base
    clear_placed i q l h = placed i q l (omega (arith, fewer i q l, bit_below (word xs i) q))

    pub clear_spot : spot ys base 64 p ≡ None
    clear_spot = spot_none ys base 64 p none
