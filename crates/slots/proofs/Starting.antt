-- A slot starts, is admitted or leaves.
use Rattle.std.proofs.lemmas.Grind.{common_steps}
use Rattle.std.proofs.Common.{◌≡◌, ℕ, ◌+◌, ◌-◌, ◌*◌, ◌<◌, ◌≤◌, List, length, get_or, set, refl, ap, mul-add, arith}
use Rattle.std.proofs.ByRecursion.{All-set, All-get_or}
use Rattle.slots.specs.declared.slot.Work.{Work}
use Rattle.slots.specs.declared.slot.Slot.{Slot}
use Rattle.slots.specs.declared.slot.Slot.TheVariants.{Absent, Resting, Working}
use Rattle.limits.specs.Ranges.{unit}
use Rattle.slots.specs.Slots.{total, cap_of, busy, demand, Fine, Bounded, Sound, FitsIn}
use Rattle.slots.proofs.Totals.{total_set}

-- the time from a to d, cut at b
cut : (c a b d : ℕ) → a ≤ b → b ≤ d → c * (d - a) ≡ c * (d - b) + c * (b - a)
cut c a b d h l = let e : d - a ≡ (d - b) + (b - a) = omega arith in rw (e, mul-add)

-- a first stretch that fits claims no more than its cap_of of the time from t
first_demand : (t d : ℕ) (w : Work) → FitsIn t w → t ≤ d → demand d (Working w) ≤ w.cap * (d - t)
first_demand t d w f l = grind (arith, common_steps)

module _ (t : ℕ) (xs : List Slot) (i : ℕ) (within : i < length xs) (s : Sound t xs) where
  pub starting : (w : Work) → get_or xs i Absent ≡ Resting w.cap → FitsIn t w → Sound t (set xs i (Working w))
  starting w is f =
      let c : 1 ≤ w.cap = rw is at (All-get_or (Fine t) xs i Absent within s.each) in
      record {
        caps = let m = total_set cap_of xs i (Working w) Absent within in let o = ap cap_of is in omega arith;
        each = All-set (Fine t) xs i (Working w) (omega arith) s.each;
        bound = λ d l.
            let m = total_set (demand d) xs i (Working w) Absent within in
            let n = total_set busy xs i (Working w) Absent within in
            let o = ap (demand d) is in
            let p = ap busy is in
            let q = first_demand t d w f l in
            let b = s.bound d l in
            let more : total busy (set xs i (Working w)) ≡ total busy xs + w.cap = omega arith in
            rw more (omega arith);
      }

  -- a change of a slot that does not work
  settled : (y : Slot) → busy (get_or xs i Absent) ≡ 0 → busy y ≡ 0 → ((d : ℕ) → demand d (get_or xs i Absent) ≡ 0) → ((d : ℕ) → demand d y ≡ 0) → Bounded t (set xs i y)
  settled y o p q r d l =
      let m = total_set (demand d) xs i y Absent within in
      let n = total_set busy xs i y Absent within in
      let q' = q d in
      let r' = r d in
      let b = s.bound d l in
      let same : total busy (set xs i y) ≡ total busy xs = omega arith in
      rw same (omega arith)

  pub admitting : (c : ℕ) → get_or xs i Absent ≡ Absent → 1 ≤ c → total cap_of xs + c ≤ unit → Sound t (set xs i (Resting c))
  admitting c is h free = record {
    caps = let m = total_set cap_of xs i (Resting c) Absent within in let o = ap cap_of is in omega arith;
    each = All-set (Fine t) xs i (Resting c) h s.each;
    bound = settled (Resting c) (ap busy is) refl (λ d. ap (demand d) is) (λ d. refl);
  }

  pub leaving : (c : ℕ) → get_or xs i Absent ≡ Resting c → Sound t (set xs i Absent)
  leaving c is = record {
    caps = let m = total_set cap_of xs i Absent Absent within in let b = s.caps in omega arith;
    each = All-set (Fine t) xs i Absent tt s.each;
    bound = settled Absent (ap busy is) refl (λ d. ap (demand d) is) (λ d. refl);
  }
