-- Several ticks at once: what is served, what is closed, and that the slots stay sound.
use Rattle.std.proofs.Common.{◌≡◌, ℕ, suc, ◌+◌, ◌-◌, ◌≤◌, false, List, map, get_or, Some, None, Option, sym, refl, ap, ◌∙◌, subst, arith}
use Rattle.release.specs.Actions.{ceil}
use Rattle.slots.specs.declared.slot.Slot.{Slot}
use Rattle.slots.specs.declared.slot.Slot.TheVariants.{Absent, Resting, Working}
use Rattle.slots.specs.Advances.{Allowed, turns}
use Rattle.slots.specs.Marks.{owed, served_by, served_for}
use Rattle.slots.specs.Slots.{Fine, Picked, Sound, cap_of, closed, late, pick, serve, served_at, total}
use Rattle.slots.specs.Steps.{Model, sets, ticked}
use Rattle.slots.proofs.Closing.{closed_cap_of, none_late, nothing_owed}
use Rattle.slots.proofs.Picking.{pick_tells}
use Rattle.slots.proofs.Places.{all_at, get_d_map}
use Rattle.slots.proofs.Service.{serve_bound, served_each}
use Rattle.slots.proofs.Spans.{Calm, Owed, allowed_calm, calm_run, for_more, leap, turns_clock, turns_sound}
use Rattle.slots.proofs.Totals.{total_map_same, total_set_same}
use Rattle.board.specs.Fits.{AllFit, AllLast, Fit, Lasting}
use Rattle.board.proofs.Closes.{fit_closed, fit_lasting}
use Rattle.board.proofs.Slotwise.{each_set}

served_cap : (k : ℕ) (x : Slot) → cap_of (served_by k x) ≡ cap_of x
served_cap k Absent = refl
served_cap k (Resting c) = refl
served_cap k (Working w) = refl

-- service moves no end
served_lasting : (k : ℕ) (x : Slot) → k ≤ owed x → Lasting x → Lasting (served_by k x)
served_lasting k Absent r h = h
served_lasting k (Resting c) r h = h
served_lasting k (Working w) r h = let same : ceil (w.left - k - (w.unserved - k)) w.limit ≡ ceil (w.left - w.unserved) w.limit = ap (λ n. ceil n w.limit) (omega arith) in (h.0, rw same h.1)

-- a slot before the instant is closed
fit_of : (t : ℕ) (s : Slot) → Fine t s → late (t + 1) s ≡ false → Lasting s → Fit (t + 1) s
fit_of t Absent f l k = tt
fit_of t (Resting c) f l k = tt
fit_of t (Working w) f l k = record { later = omega arith; done = nothing_owed (t + 1) w l; some = f.3; slow = f.4; lasts = k }

module _ (k : ℕ) (xs : List Slot) where
  caps_for : (o : Option ℕ) → Picked xs o → total cap_of (served_for k xs o) ≡ total cap_of xs
  caps_for None p = refl
  caps_for (Some i) p = total_set_same cap_of xs i (served_by k (get_or xs i Absent)) Absent p.within (served_cap k (get_or xs i Absent))

  lasting_for : (o : Option ℕ) → Picked xs o → Owed k xs o → AllLast xs → AllLast (served_for k xs o)
  lasting_for None p r h = h
  lasting_for (Some i) p r h = each_set Lasting xs i (served_by k (get_or xs i Absent)) p.within (served_lasting k (get_or xs i Absent) r (h i)) h

module _ (m : Model) (k : ℕ) (s : Sound m.clock m.slots) (lasts : AllLast m.slots) (a : Allowed m k k) where
  abbrev o : Option ℕ
  o = pick m.slots

  abbrev p : Picked m.slots o
  p = pick_tells m.slots

  -- the board before the last tick
  abbrev z : Model
  z = turns (k - 1) m

  one : k ≡ k - 1 + 1
  one = let some = a.some in omega arith

  calm : Calm m o k
  calm = allowed_calm m k k s a

  calm-before : Calm m o (k - 1 + 1)
  calm-before = subst (Calm m o) one calm

  clock-before : z.clock + 1 ≡ m.clock + k
  clock-before = let some = a.some in omega (arith, turns_clock (k - 1) m)

  serves : serve z.slots ≡ served_for k m.slots o
  serves =
      ap (served_at z.slots) (calm_run (k - 1) 0 m o calm-before).picks
      ∙ ap (λ (y : Model). served_at y.slots o) (leap (k - 1) 0 m o calm-before)
      ∙ for_more (k - 1) m.slots o p
      ∙ ap (λ j. served_for j m.slots o) (let e : suc (k - 1) ≡ k = (let some = a.some in omega arith) in e)

  fits : AllFit (z.clock + 1) (serve z.slots)
  fits i =
      let sound = turns_sound (k - 1) m s in
      fit_of z.clock (get_or (serve z.slots) i Absent)
      (all_at (Fine z.clock) tt (serve z.slots) (served_each z.clock z.slots (pick z.slots) (pick_tells z.slots) sound.each) i)
      (all_at (λ x. late (z.clock + 1) x ≡ false) refl (serve z.slots) (none_late (z.clock + 1) (serve z.slots) (serve_bound z.clock z.slots sound)) i)
      (subst (λ (ys : List Slot). Lasting (get_or ys i Absent)) (sym serves) (lasting_for k m.slots o p calm.owed lasts i))

  -- the slots ys, once all is served
  module _ (ys : List Slot) (is : ys ≡ served_for k m.slots o) where
    same : serve z.slots ≡ ys
    same = serves ∙ sym is

    pub pass_fit : AllFit (m.clock + k) ys
    pass_fit = subst (λ (t : ℕ). AllFit t ys) clock-before (subst (AllFit (z.clock + 1)) same fits)

    pub pass_sets : sets (m.clock + k) ys ≡ (ticked z).sets
    pass_sets = sym (ap (sets (z.clock + 1)) same ∙ ap (λ (t : ℕ). sets t ys) clock-before)

    -- the slots zs, once the instant is closed
    module _ (zs : List Slot) (is' : zs ≡ map (closed (m.clock + k)) ys) where
      closes-to : map (closed (z.clock + 1)) (serve z.slots) ≡ zs
      closes-to = ap (map (closed (z.clock + 1))) same ∙ ap (λ (t : ℕ). map (closed t) ys) clock-before ∙ sym is'

      pub pass_turns : ◌≡◌ {A = Model} (record { clock = m.clock + k; slots = zs }) (turns k m)
      pass_turns =
          let all : turns (suc (k - 1)) m ≡ record { clock = m.clock + k; slots = zs } = λ i. record { clock = clock-before i; slots = closes-to i } in
          sym all ∙ ap (λ j. turns j m) (let e : suc (k - 1) ≡ k = (let some = a.some in omega arith) in e)

      pub pass_sound : Sound (m.clock + k) zs
      pass_sound = subst (λ (y : Model). Sound y.clock y.slots) (sym pass_turns) (turns_sound k m s)

      pub pass_caps : total cap_of zs ≡ total cap_of m.slots
      pass_caps = ap (total cap_of) is' ∙ total_map_same cap_of (closed (m.clock + k)) (closed_cap_of (m.clock + k)) ys ∙ ap (total cap_of) is ∙ caps_for k m.slots o p

      pub pass_lasting : AllLast zs
      pass_lasting i = subst Lasting (sym (ap (λ (ws : List Slot). get_or ws i Absent) is' ∙ get_d_map (closed (m.clock + k)) ys i refl)) (fit_lasting (m.clock + k) (closed (m.clock + k) (get_or ys i Absent)) (fit_closed (m.clock + k) (get_or ys i Absent) (pass_fit i)))
