-- The span of an advance is the largest number of ticks that it may make.
use Rattle.std.proofs.lemmas.Grind.{common_steps}
use Rattle.std.proofs.Common.{◌≡◌, ℕ, zero, suc, ◌+◌, ◌-◌, ◌<◌, ◌≤◌, min, Bool, true, false, cond, not, ◌&&◌, eqb, ltb, List, [], ◌∷◌, map, get_or, set, Some, None, Option, sym, refl, ap, ◌∙◌, subst, ⊎_elim, add-zero, arith, set-set}
use lib.Seq.{set-get_or}
use Rattle.std.specs.List.{AllByRecursion}
use Rattle.std.proofs.lemmas.List.{length-set, get_or-set_same, get_or-set_other}
use Rattle.std.proofs.ByRecursion.{All-weaker, All-set, All-from_get_or}
use Rattle.std.proofs.lemmas.Bool.{cond_both, cond-true, cond-false, and_from, eq-eqb, ltb-true, lt-ltb, ne_eqb, both_ways, cases_Bool, cases_lt, not_from_false}
use Rattle.slots.specs.declared.slot.Work.{Work}
use Rattle.slots.specs.declared.slot.Slot.{Slot}
use Rattle.slots.specs.declared.slot.Slot.TheVariants.{Absent, Resting, Working}
use Rattle.slots.specs.Slots.{waits, end_of, pick, Picked, served, served_at, serve, closed, tick, late, Fine, Sound}
use Rattle.slots.proofs.Picking.{pick_tells, picked_is}
use Rattle.slots.proofs.Service.{served_end}
use Rattle.slots.proofs.Ticking.{ticking}
use Rattle.limits.specs.Ranges.{horizon}
use Rattle.bits.proofs.Bits.{bit_of_zero}
use Rattle.slots.specs.Marks.{owed, served_by, served_for}
use Rattle.slots.specs.Members.{has, is_server}
use Rattle.slots.specs.Steps.{Model, ends, goes_on, mask, moved, number, ticked}
use Rattle.slots.specs.Advances.{Allowed, Largest, nobody, owing, span, turns, until_end_of}
use Rattle.slots.specs.declared.sets.Sets.{Sets}
use Rattle.slots.proofs.Places.{all_at, get_d_map, has_mask, mask_none, served_here}

-- no stretch ends before e
abbrev pub Far : ℕ → Slot → Type 0
Far e Absent = Unit {0}
Far e (Resting c) = Unit {0}
Far e (Working w) = e ≤ w.end

-- the slot to serve has b ticks unserved at the least
abbrev pub Owed : ℕ → List Slot → Option ℕ → Type 0
Owed b xs None = Unit {0}
Owed b xs (Some i) = b ≤ owed (get_or xs i Absent)

far_closed : (t : ℕ) (x : Slot) → Far (t + 2) x → closed (t + 1) x ≡ x
far_closed t Absent h = refl
far_closed t (Resting c) h = refl
far_closed t (Working w) h = cond-false _ _ _ (ne_eqb w.end (t + 1) (omega arith))

map_closed : (t : ℕ) (xs : List Slot) → AllByRecursion (Far (t + 2)) xs → map (closed (t + 1)) xs ≡ xs
map_closed t [] a = refl
map_closed t (x ∷ xs) a = let p = far_closed t x a.0 in let q = map_closed t xs a.1 in cc

far_none : (t : ℕ) (x : Slot) → Far (t + 2) x → (goes_on (t + 1) x ≡ false) × (ends (t + 1) x ≡ false) × (late (t + 1) x ≡ false)
far_none t Absent h = (refl, refl, refl)
far_none t (Resting c) h = (refl, refl, refl)
far_none t (Working w) h = grind (arith, common_steps)

far_served : (e : ℕ) (x : Slot) → Far e x → Far e (served x)
far_served e Absent h = h
far_served e (Resting c) h = h
far_served e (Working w) h = h

far_weaker : (e f : ℕ) → e ≤ f → (x : Slot) → Far f x → Far e x
far_weaker e f l Absent h = h
far_weaker e f l (Resting c) h = h
far_weaker e f l (Working w) h = omega arith

far_serve : (e : ℕ) (xs : List Slot) (o : Option ℕ) → AllByRecursion (Far e) xs → AllByRecursion (Far e) (served_at xs o)
far_serve e xs None a = a
far_serve e xs (Some i) a = grind (arith, common_steps)

served_less : (x : Slot) → owed (served x) ≡ owed x - 1
served_less Absent = refl
served_less (Resting c) = refl
served_less (Working w) = refl

owed_waits : (x : Slot) → 0 < owed x → waits x ≡ true
owed_waits Absent h = absurd (omega arith)
owed_waits (Resting c) h = absurd (omega arith)
owed_waits (Working w) h = lt-ltb 0 w.unserved h

pub waits_owed : (x : Slot) → waits x ≡ true → 0 < owed x
waits_owed Absent h = absurd (both_ways false refl h)
waits_owed (Resting c) h = absurd (both_ways false refl h)
waits_owed (Working w) h = ltb-true 0 w.unserved h

-- a slot that is owed more stays the one to serve
picked_again : (b : ℕ) (xs : List Slot) (o : Option ℕ) → Picked xs o → Owed (suc (suc b)) xs o → Picked (served_at xs o) o × Owed (suc b) (served_at xs o) o
picked_again b xs None p h = (p, tt)
picked_again b xs (Some i) p h =
    let x = get_or xs i Absent in
    let is : get_or (set xs i (served x)) i Absent ≡ served x = get_or-set_same xs i (served x) Absent p.within in
    let less = served_less x in
    let same = served_end x in (
      record {
        within = omega (arith, length-set xs i (served x), p.within);
        waiting = ap waits is ∙ owed_waits (served x) (omega arith);
        least = rw is (All-set (λ s. waits s ≡ true → end_of (served x) ≤ end_of s) xs i (served x) (λ _. omega arith)
            (All-weaker (λ s. waits s ≡ true → end_of x ≤ end_of s) (λ s. waits s ≡ true → end_of (served x) ≤ end_of s) (λ s f w. let g = f w in omega arith) xs p.least));
        first = λ k l. let ne = get_or-set_other xs i k (served x) Absent (omega arith) in rw (is, ne) (λ w. let g = p.first k l w in omega arith);
      },
      rw is (omega arith),
    )

-- b ticks lie ahead in which o is served and nothing ends before the last
pub record Calm (m : Model) (o : Option ℕ) (b : ℕ) : Type 0 where
  pub picks : pick m.slots ≡ o
  pub far : AllByRecursion (Far (m.clock + b)) m.slots
  pub owed : Owed b m.slots o

module _ (m : Model) (o : Option ℕ) (b : ℕ) (c : Calm m o (suc (suc b))) where
  wide : AllByRecursion (Far (m.clock + 2)) (serve m.slots)
  wide = All-weaker (Far (m.clock + suc (suc b))) (Far (m.clock + 2)) (far_weaker (m.clock + 2) (m.clock + suc (suc b)) (omega arith)) (serve m.slots) (far_serve (m.clock + suc (suc b)) m.slots (pick m.slots) c.far)

  pub calm_quiet : (ticked m).sets ≡ nobody
  calm_quiet =
      let n = All-weaker (Far (m.clock + 2)) (λ x. (goes_on (m.clock + 1) x ≡ false) × (ends (m.clock + 1) x ≡ false) × (late (m.clock + 1) x ≡ false)) (far_none m.clock) (serve m.slots) wide in
      let none : (P : Slot → Bool) → ((x : Slot) → (goes_on (m.clock + 1) x ≡ false) × (ends (m.clock + 1) x ≡ false) × (late (m.clock + 1) x ≡ false) → P x ≡ false) → mask P (serve m.slots) ≡ 0 =
      λ P f. mask_none P (serve m.slots) (All-weaker (λ x. (goes_on (m.clock + 1) x ≡ false) × (ends (m.clock + 1) x ≡ false) × (late (m.clock + 1) x ≡ false)) (λ x. P x ≡ false) f (serve m.slots) n) in
      let r = none (goes_on (m.clock + 1)) (λ x h. h.0) in
      let f = none (ends (m.clock + 1)) (λ x h. h.1) in
      let l = none (late (m.clock + 1)) (λ x h. h.2) in
      cc

  still : tick m.clock m.slots ≡ served_at m.slots o
  still = map_closed m.clock (serve m.slots) wide ∙ ap (served_at m.slots) c.picks

  calm_next : Calm (moved m) o (suc b)
  calm_next =
      let p : Picked m.slots o = subst (Picked m.slots) c.picks (pick_tells m.slots) in
      let a = picked_again b m.slots o p c.owed in
      let e : m.clock + suc (suc b) ≡ m.clock + 1 + suc b = omega arith in
      let ys = served_at m.slots o in
      record {
        picks = ap pick still ∙ sym (picked_is ys o a.0);
        far = subst (AllByRecursion (Far (m.clock + 1 + suc b))) (sym still) (subst (λ (n : ℕ). AllByRecursion (Far n) ys) e (far_serve (m.clock + suc (suc b)) m.slots o c.far));
        owed = subst (λ (zs : List Slot). Owed (suc b) zs o) (sym still) a.1;
      }

pub turns_clock : (n : ℕ) (m : Model) → (turns n m).clock ≡ m.clock + n
turns_clock zero m = omega arith
turns_clock (suc n) m = let r = turns_clock n m in omega arith

pub calm_run : (j b : ℕ) (m : Model) (o : Option ℕ) → Calm m o (j + suc b) → Calm (turns j m) o (suc b)
calm_run zero b m o c = let e : 0 + suc b ≡ suc b = omega arith in subst (Calm m o) e c
calm_run (suc j) b m o c =
    let e : suc j + suc b ≡ j + suc (suc b) = omega arith in
    calm_next (turns j m) o b (calm_run j (suc b) m o (subst (Calm m o) e c))

served_none : (x : Slot) → served_by 0 x ≡ x
served_none Absent = refl
served_none (Resting c) = refl
served_none (Working w) = grind (arith, common_steps)

served_more : (j : ℕ) (x : Slot) → served (served_by j x) ≡ served_by (suc j) x
served_more j Absent = refl
served_more j (Resting c) = refl
served_more j (Working w) = grind (arith, common_steps)

for_none : (xs : List Slot) (o : Option ℕ) → served_for 0 xs o ≡ xs
for_none xs None = refl
for_none xs (Some i) = ap (set xs i) (served_none (get_or xs i Absent)) ∙ set-get_or xs i Absent

pub for_more : (j : ℕ) (xs : List Slot) (o : Option ℕ) → Picked xs o → served_at (served_for j xs o) o ≡ served_for (suc j) xs o
for_more j xs None p = refl
for_more j xs (Some i) p =
    let x = get_or xs i Absent in
    let y = served_by j x in
    set-set xs i y (served (get_or (set xs i y) i Absent)) ∙ ap (set xs i) (ap served (get_or-set_same xs i y Absent p.within) ∙ served_more j x)

-- ticks that lie ahead so, in one leap
pub leap : (j b : ℕ) (m : Model) (o : Option ℕ) → Calm m o (j + suc b) → turns j m ≡ record { clock = m.clock + j; slots = served_for j m.slots o }
leap zero b m o c = λ i. record { clock = sym (add-zero m.clock) i; slots = sym (for_none m.slots o) i }
leap (suc j) b m o c =
    let e : suc j + suc b ≡ j + suc (suc b) = omega arith in
    let c' = subst (Calm m o) e c in
    let z = turns j m in
    let before = leap j (suc b) m o c' in
    let p : Picked m.slots o = subst (Picked m.slots) c.picks (pick_tells m.slots) in
    let clock : z.clock + 1 ≡ m.clock + suc j = omega (arith, turns_clock j m) in
    let slots : tick z.clock z.slots ≡ served_for (suc j) m.slots o =
    still z o b (calm_run j (suc b) m o c') ∙ ap (λ (y : Model). served_at y.slots o) before ∙ for_more j m.slots o p in
    λ i. record { clock = clock i; slots = slots i }

-- the invariant after any number of ticks
pub turns_sound : (k : ℕ) (m : Model) → Sound m.clock m.slots → Sound (turns k m).clock (turns k m).slots
turns_sound zero m s = s
turns_sound (suc k) m s = let z = turns k m in ticking z.clock z.slots (turns_sound k m s)

-- how far an advance goes
pub until_end_cap : (t : ℕ) (xs : List Slot) (c : ℕ) → until_end_of t xs c ≤ c
until_end_cap t [] c = omega arith
until_end_cap t (Absent ∷ xs) c = until_end_cap t xs c
until_end_cap t (Resting b ∷ xs) c = until_end_cap t xs c
until_end_cap t (Working w ∷ xs) c = let r = until_end_cap t xs c in omega arith

until_end_some : (t : ℕ) (xs : List Slot) (c : ℕ) → 1 ≤ c → AllByRecursion (Fine t) xs → 1 ≤ until_end_of t xs c
until_end_some t [] c h a = h
until_end_some t (Absent ∷ xs) c h a = until_end_some t xs c h a.1
until_end_some t (Resting b ∷ xs) c h a = until_end_some t xs c h a.1
until_end_some t (Working w ∷ xs) c h a = let r = until_end_some t xs c h a.1 in let f = a.0.1 in omega arith

pub until_end_far : (t : ℕ) (xs : List Slot) (c b : ℕ) → b ≤ until_end_of t xs c → AllByRecursion (Fine t) xs → AllByRecursion (Far (t + b)) xs
until_end_far t [] c b h a = tt
until_end_far t (Absent ∷ xs) c b h a = (tt, until_end_far t xs c b h a.1)
until_end_far t (Resting k ∷ xs) c b h a = (tt, until_end_far t xs c b h a.1)
until_end_far t (Working w ∷ xs) c b h a = let f = a.0.1 in (omega arith, until_end_far t xs c b (omega arith) a.1)

pub until_end_from : (t : ℕ) (xs : List Slot) (c b : ℕ) → b ≤ c → AllByRecursion (Far (t + b)) xs → b ≤ until_end_of t xs c
until_end_from t [] c b h f = h
until_end_from t (Absent ∷ xs) c b h f = until_end_from t xs c b h f.1
until_end_from t (Resting k ∷ xs) c b h f = until_end_from t xs c b h f.1
until_end_from t (Working w ∷ xs) c b h f = let r = until_end_from t xs c b h f.1 in let g = f.0 in omega arith

owing_cap : (xs : List Slot) (o : Option ℕ) (c : ℕ) → owing xs o c ≤ c
owing_cap xs None c = omega arith
owing_cap xs (Some i) c = omega arith

owing_some : (xs : List Slot) (o : Option ℕ) (c : ℕ) → Picked xs o → 1 ≤ c → 1 ≤ owing xs o c
owing_some xs None c p h = h
owing_some xs (Some i) c p h = let w = waits_owed (get_or xs i Absent) p.waiting in omega arith

owing_owed : (xs : List Slot) (o : Option ℕ) (c : ℕ) → Owed (owing xs o c) xs o
owing_owed xs None c = tt
owing_owed xs (Some i) c = omega arith

owing_from : (xs : List Slot) (o : Option ℕ) (c b : ℕ) → Owed b xs o → b ≤ c → b ≤ owing xs o c
owing_from xs None c b h l = l
owing_from xs (Some i) c b h l = omega arith

pub record Spans (m : Model) (n k : ℕ) : Type 0 where
  pub some : 1 ≤ k
  pub within : k ≤ n
  pub early : m.clock + k ≤ horizon
  pub calm : Calm m (pick m.slots) k

pub spans : (m : Model) (n : ℕ) → Sound m.clock m.slots → 1 ≤ n → m.clock < horizon → Spans m n (span m n)
unfolding span
spans m n s h l =
    let xs = m.slots in
    let t = m.clock in
    let c = min n (horizon - t) in
    let r = until_end_of t xs c in
    let a = until_end_cap t xs c in
    let b = until_end_some t xs c (omega arith) s.each in
    let d = owing_cap xs (pick xs) r in
    let f = owing_some xs (pick xs) r (pick_tells xs) b in
    record {
      some = f;
      within = omega arith;
      early = omega arith;
      calm = record { picks = refl; far = until_end_far t xs c (owing xs (pick xs) r) d s.each; owed = owing_owed xs (pick xs) r };
    }

-- what it makes, it may
may : (m : Model) (n k : ℕ) → Spans m n k → Allowed m n k
may m n k s = record {
  some = s.some;
  within = s.within;
  early = s.early;
  same = λ i l.
      let e : k ≡ i + suc (k - (i + 1)) = omega arith in
      ap number (calm_run i (k - (i + 1)) m (pick m.slots) (subst (Calm m (pick m.slots)) e s.calm)).picks;
  quiet = λ i l.
      let e : k ≡ i + suc (suc (k - (i + 2))) = omega arith in
      calm_quiet (turns i m) (pick m.slots) (k - (i + 2)) (calm_run i (suc (k - (i + 2))) m (pick m.slots) (subst (Calm m (pick m.slots)) e s.calm));
}

number_same : (o p : Option ℕ) → number o ≡ number p → o ≡ p
number_same None None e = refl
number_same None (Some j) e = let z : ◌≡◌ {A = ℕ} 0 1 = cc in absurd (omega arith)
number_same (Some i) None e = let z : ◌≡◌ {A = ℕ} 0 1 = cc in absurd (omega arith)
number_same (Some i) (Some j) e = let z : i + 1 ≡ j + 1 = cc in ap Some (omega arith)

-- a slot whose stretch does not end is served or left as it is
kept_slot : (z : Model) (i : ℕ) (w : Work) → get_or z.slots i Absent ≡ Working w → (w.end ≡ z.clock + 1 → ⊥) → get_or (moved z).slots i Absent ≡ cond (is_server (number (pick z.slots)) (suc i)) (served (Working w)) (Working w)
kept_slot z i w is off =
    let o = pick z.slots in
    let b = is_server (number o) (suc i) in
    let n = ne_eqb w.end (z.clock + 1) off in
    let mid : get_or (serve z.slots) i Absent ≡ cond b (served (Working w)) (Working w) = served_here z.slots o i (pick_tells z.slots) ∙ ap (λ (x : Slot). cond b (served x) x) is in
    get_d_map (closed (z.clock + 1)) (serve z.slots) i refl ∙ ap (closed (z.clock + 1)) mid
    ∙ cond_both b (served (Working w)) (Working w) (λ x. closed (z.clock + 1) x ≡ x) (λ _. cond-false _ _ _ n) (λ _. cond-false _ _ _ n)

-- a slot until its stretch ends: the end stays
pub record Stays (m : Model) (i e j : ℕ) : Type 0 where
  pub work : Work
  pub is : get_or (turns j m).slots i Absent ≡ Working work
  pub end : work.end ≡ e

stays_next : (m : Model) (i e j : ℕ) (s : Stays m i e j) → (turns j m).clock + 1 < e → Stays m i e (suc j)
stays_next m i e j s h =
    let w = s.work in
    let en = s.end in
    let k = kept_slot (turns j m) i w s.is (omega arith) in
    ⊎_elim
    (λ (b : is_server (number (pick (turns j m).slots)) (suc i) ≡ true).
    let r : Stays m i e (suc j) = record { work = record { cap = w.cap; end = w.end; unserved = w.unserved - 1; left = w.left - 1; limit = w.limit; period = w.period }; is = k ∙ cond-true _ _ _ b; end = s.end } in r)
    (λ (b : is_server (number (pick (turns j m).slots)) (suc i) ≡ false).
    let r : Stays m i e (suc j) = record { work = w; is = k ∙ cond-false _ _ _ b; end = s.end } in r)
    (cases_Bool (is_server (number (pick (turns j m).slots)) (suc i)))

stays : (m : Model) (i : ℕ) (w : Work) → get_or m.slots i Absent ≡ Working w → (j : ℕ) → m.clock + j < w.end → Stays m i w.end j
stays m i w is zero h = record { work = w; is = is; end = refl }
stays m i w is (suc j) h = let c = turns_clock j m in stays_next m i w.end j (stays m i w is j (omega arith)) (omega arith)

-- where a stretch ends, a set is not empty
ends_shows : (z : Model) (i : ℕ) (w : Work) → get_or z.slots i Absent ≡ Working w → w.end ≡ z.clock + 1 → (ticked z).sets ≡ nobody → ⊥
ends_shows z i w is en h =
    let o = pick z.slots in
    let b = is_server (number o) (suc i) in
    let mid : get_or (serve z.slots) i Absent ≡ cond b (served (Working w)) (Working w) = served_here z.slots o i (pick_tells z.slots) ∙ ap (λ (x : Slot). cond b (served x) x) is in
    let g : mask (goes_on (z.clock + 1)) (serve z.slots) ≡ 0 = ap (λ (x : Sets). x.released.word) h in
    let f : mask (ends (z.clock + 1)) (serve z.slots) ≡ 0 = ap (λ (x : Sets). x.ended.word) h in
    let none : has (record { word = 0 }) (suc i) ≡ false = ap (λ n. eqb n 1) (bit_of_zero i) in
    let g' : goes_on (z.clock + 1) (cond b (served (Working w)) (Working w)) ≡ false = ap (goes_on (z.clock + 1)) (sym mid) ∙ sym (has_mask (goes_on (z.clock + 1)) refl (serve z.slots) i) ∙ ap (λ n. has (record { word = n }) (suc i)) g ∙ none in
    let f' : ends (z.clock + 1) (cond b (served (Working w)) (Working w)) ≡ false = ap (ends (z.clock + 1)) (sym mid) ∙ sym (has_mask (ends (z.clock + 1)) refl (serve z.slots) i) ∙ ap (λ n. has (record { word = n }) (suc i)) f ∙ none in
    cond_both b (served (Working w)) (Working w) (λ x. goes_on (z.clock + 1) x ≡ false → ends (z.clock + 1) x ≡ false → ⊥) (λ _. one (z.clock + 1) w.end (w.left - 1) en) (λ _. one (z.clock + 1) w.end w.left en) g' f'
  where
    one : (t e l : ℕ) → e ≡ t → (eqb e t && not (eqb l 0)) ≡ false → (eqb e t && eqb l 0) ≡ false → ⊥
    one t e l en g f =
        let a = eq-eqb e t en in
        ⊎_elim
        (λ (x : eqb l 0 ≡ true). both_ways (eqb e t && eqb l 0) f (and_from (eqb e t) (eqb l 0) a x))
        (λ (x : eqb l 0 ≡ false). both_ways (eqb e t && not (eqb l 0)) g (and_from (eqb e t) (not (eqb l 0)) a (not_from_false (eqb l 0) x)))
        (cases_Bool (eqb l 0))

module _ (m : Model) (n k : ℕ) (s : Sound m.clock m.slots) (a : Allowed m n k) where
  -- no stretch ends before the last tick
  far_at : (i : ℕ) (x : Slot) → get_or m.slots i Absent ≡ x → Fine m.clock x → Far (m.clock + k) x
  far_at i Absent is f = tt
  far_at i (Resting c) is f = tt
  far_at i (Working w) is f =
      ⊎_elim
      (λ (h : w.end < m.clock + k).
      let j = w.end - (m.clock + 1) in
      let later = f.1 in
      let t = stays m i w is j (omega arith) in
      let c = turns_clock j m in
      let en = t.end in
      absurd (ends_shows (turns j m) i t.work t.is (omega arith) (a.quiet j (omega arith))))
      (λ (h : m.clock + k ≤ w.end). h)
      (cases_lt w.end (m.clock + k))

  spread : AllByRecursion (Far (m.clock + k)) m.slots
  spread = All-from_get_or (Far (m.clock + k)) m.slots Absent (λ i _. far_at i (get_or m.slots i Absent) refl (all_at (Fine m.clock) tt m.slots s.each i))

  -- the slot to serve, as it is served
  module _ (i : ℕ) (o : pick m.slots ≡ Some i) (w : Work) (is : get_or m.slots i Absent ≡ Working w) (short : w.unserved < k) where
    ends_late : m.clock + k ≤ w.end
    ends_late = subst (Far (m.clock + k)) is (all_at (Far (m.clock + k)) tt m.slots spread i)

    hit : (j : ℕ) → j < k → is_server (number (pick (turns j m).slots)) (suc i) ≡ true
    hit j h = grind (arith, common_steps)

    spent : (j : ℕ) → j ≤ w.unserved → (v : Work) × (get_or (turns j m).slots i Absent ≡ Working v) × (v.end ≡ w.end) × (v.unserved + j ≡ w.unserved)
    spent zero h = (w, is, refl, omega arith)
    spent (suc j) h =
        let r = spent j (omega arith) in
        let v = r.0 in
        let en = r.2 in
        let un = r.3 in
        let c = turns_clock j m in
        let late = ends_late in
        let next = kept_slot (turns j m) i v r.1 (omega arith) ∙ cond-true _ _ _ (hit j (omega arith)) in
        (record { cap = v.cap; end = v.end; unserved = v.unserved - 1; left = v.left - 1; limit = v.limit; period = v.period }, next, en, omega arith)

    never : ⊥
    never =
        let r = spent w.unserved (omega arith) in
        let un = r.3 in
        let zs = (turns w.unserved m).slots in
        let p : Picked zs (Some i) = subst (Picked zs) (number_same (pick zs) (Some i) (a.same w.unserved short ∙ ap number o)) (pick_tells zs) in
        let y : ltb 0 r.0.unserved ≡ true = sym (ap waits r.1) ∙ p.waiting in
        omega (arith, ltb-true 0 r.0.unserved y)

  enough_at : (i : ℕ) → pick m.slots ≡ Some i → (x : Slot) → get_or m.slots i Absent ≡ x → waits x ≡ true → k ≤ owed x
  enough_at i o Absent is w = absurd (both_ways false refl w)
  enough_at i o (Resting c) is w = absurd (both_ways false refl w)
  enough_at i o (Working v) is w = ⊎_elim (λ (h : v.unserved < k). absurd (never i o v is h)) (λ (h : k ≤ v.unserved). h) (cases_lt v.unserved k)

  enough : (o : Option ℕ) → pick m.slots ≡ o → Picked m.slots o → Owed k m.slots o
  enough None e p = tt
  enough (Some i) e p = enough_at i e (get_or m.slots i Absent) refl p.waiting

  pub allowed_calm : Calm m (pick m.slots) k
  allowed_calm = record { picks = refl; far = spread; owed = enough (pick m.slots) refl (pick_tells m.slots) }

  no_larger : k ≤ span m n
  unfolding span
  no_larger =
      let x = a.within in
      let y = a.early in
      let c = min n (horizon - m.clock) in
      owing_from m.slots (pick m.slots) (until_end_of m.clock m.slots c) k allowed_calm.owed
      (until_end_from m.clock m.slots c k (omega arith) allowed_calm.far)

pub largest : (m : Model) (n : ℕ) → Sound m.clock m.slots → 1 ≤ n → m.clock < horizon → Largest m n (span m n)
largest m n s h l = record { allowed = may m n (span m n) (spans m n s h l); most = λ k a. no_larger m n k s a }
