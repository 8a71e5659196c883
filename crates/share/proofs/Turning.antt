-- A tick keeps what the trace tells, and what it tells of each server at work.
use Rattle.std.proofs.Common.{◌≡◌, ℕ, zero, suc, ◌+◌, ◌<◌, Bool, true, false, cond, List, get_or, Some, None, Option, sym, refl, ap, ◌∙◌, subst, arith, Ok}
use Rattle.release.specs.Actions.{Action, Completes, Meaning, boundary, due}
use Rattle.share.proofs.Explain.{Explained, Explains, Stepped, place_of, refused, standing}
use Rattle.share.proofs.Judging.{by_check, judged_right}
use Rattle.share.proofs.Pace.{Seen, Suits, closed_by, served_by, suits_closed, suits_served, suits_shows, suits_tells}
use Rattle.share.proofs.Seeing.{given_next, latest, seen, seen_ticked}
use Rattle.share.specs.Answers.{Answer}
use Rattle.share.specs.Plays.{spoken}
use Rattle.share.specs.Traces.{Trace, at_work, clock_of, finishes, releases, said, served_in, serves}
use Rattle.share.specs.declared.calls.Call.TheVariants.{Tick}
use Rattle.share.specs.declared.calls.Outcome.TheVariants.{Ticked}
use Rattle.slots.proofs.Closing.{none_late}
use Rattle.slots.proofs.Picking.{pick_tells}
use Rattle.slots.proofs.Places.{all_at, get_d_map, has_mask, length_serve, mask_none, served_here, served_waits, waits_works}
use Rattle.slots.proofs.Service.{serve_bound, served_each}
use Rattle.slots.proofs.Ticking.{ticking}
use Rattle.slots.specs.Members.{is_server}
use Rattle.slots.specs.Slots.{Fine, Picked, closed, late, pick, serve, served, tick}
use Rattle.slots.specs.Steps.{changed, ends, goes_on, judged, moved, number, tick_refusal, ticked, works}
use Rattle.slots.specs.declared.sets.Ticked.{Ticked as OneTick}
use Rattle.slots.specs.declared.slot.Slot.{Slot}
use Rattle.slots.specs.declared.slot.Slot.TheVariants.{Absent, Resting, Working}
use Rattle.std.proofs.lemmas.List.{length-map}
use Rattle.std.proofs.lemmas.Bool.{both_ways, eqb-true}
use Rattle.std.specs.List.{AllByRecursion}

ends_works : (t : ℕ) (x : Slot) → ends t x ≡ true → works x ≡ true
ends_works t Absent h = h
ends_works t (Resting c) h = h
ends_works t (Working w) h = refl

goes_on_works : (t : ℕ) (x : Slot) → goes_on t x ≡ true → works x ≡ true
goes_on_works t Absent h = h
goes_on_works t (Resting c) h = h
goes_on_works t (Working w) h = refl

served_works : (b : Bool) (x : Slot) → works (cond b (served x) x) ≡ works x
served_works false x = refl
served_works true Absent = refl
served_works true (Resting c) = refl
served_works true (Working w) = refl

nobody_served : (o : Option ℕ) → is_server (number o) zero ≡ true → ⊥
nobody_served None h = both_ways false refl h
nobody_served (Some i) h = omega (arith, eqb-true (i + 1) 0 h)

-- What a tick after p that is answered a tells of the server s, at work on the action k.
pub record Turned (rule : Meaning) (p : Trace) (s : ℕ) (k : Action) (a : Answer) : Type 0 where
  pub over : finishes s a ≡ true → (j : ℕ) × (clock_of p + 1 ≡ boundary k j) × (served_in (said p Tick a) s k.arrival (clock_of p + 1) ≡ due rule k j) × Completes rule k j
  pub renews : releases s a ≡ true → (j : ℕ) × (clock_of p + 1 ≡ boundary k j) × (due rule k j < k.load)
  pub renewed_at : (j : ℕ) → clock_of p + 1 ≡ boundary k j → due rule k j < k.load → releases s a ≡ true
  pub on : finishes s a ≡ false → (j : ℕ) → boundary k j ≡ clock_of p + 1 → (served_in (said p Tick a) s k.arrival (clock_of p + 1) ≡ due rule k j) × (due rule k j < k.load)

module _ (rule : Meaning) (p : Trace) (xs : List Slot) (e : Explains rule p xs) where
  abbrev now : ℕ
  now = clock_of p

  abbrev ys : List Slot
  ys = serve xs

  abbrev told_now : OneTick
  told_now = ticked (standing p xs)

  abbrev q : Trace
  q = said p Tick (Ok (Ticked told_now))

  picked : Picked xs (pick xs)
  picked = pick_tells xs

  none_is_late : AllByRecursion (λ x. late (now + 1) x ≡ false) ys
  none_is_late = none_late (now + 1) ys (serve_bound now xs e.sound)

  -- the slot i
  module _ (i : ℕ) where
    abbrev hit : Bool
    hit = is_server (number (pick xs)) (suc i)

    abbrev old : Slot
    old = get_or xs i Absent

    abbrev y : Slot
    y = get_or ys i Absent

    abbrev mid : Seen
    mid = served_by hit (seen p (suc i))

    here : y ≡ cond hit (served old) old
    here = served_here xs (pick xs) i picked

    fine : Fine now y
    fine = all_at (Fine now) tt ys (served_each now xs (pick xs) picked e.sound.each) i

    on_time : late (now + 1) y ≡ false
    on_time = all_at (λ x. late (now + 1) x ≡ false) refl ys none_is_late i

    -- once the tick has served
    suits_mid : Suits rule mid y
    suits_mid = subst (Suits rule mid) (sym here) (suits_served rule (seen p (suc i)) hit old (served_waits xs (pick xs) i picked) (e.slots (suc i)))

    ends_is : finishes (suc i) (Ok (Ticked told_now)) ≡ ends (now + 1) y
    ends_is = has_mask (ends (now + 1)) refl ys i

    goes_on_is : releases (suc i) (Ok (Ticked told_now)) ≡ goes_on (now + 1) y
    goes_on_is = has_mask (goes_on (now + 1)) refl ys i

    tick_slot : Suits rule (seen q (suc i)) (get_or (tick now xs) i Absent)
    tick_slot =
        let is : seen q (suc i) ≡ closed_by (ends (now + 1) y) mid = seen_ticked p (suc i) told_now ∙ ap (λ (b : Bool). closed_by b mid) ends_is in
        let at : get_or (tick now xs) i Absent ≡ closed (now + 1) y = get_d_map (closed (now + 1)) ys i refl in
        subst (Suits rule (seen q (suc i))) (sym at) (subst (λ (o : Seen). Suits rule o (closed (now + 1) y)) (sym is) (suits_closed rule mid y on_time suits_mid))

    tick_turned : at_work p (suc i) ≡ true → Turned rule p (suc i) (latest p (suc i)) (Ok (Ticked told_now))
    tick_turned w =
        let t = suits_shows rule mid y fine on_time w suits_mid in
        let given = given_next p (suc i) told_now in
        record {
          over = λ h. let r = t.over (sym ends_is ∙ h) in (r.0, r.1, given ∙ r.2, r.3);
          renews = λ h. t.renews (sym goes_on_is ∙ h);
          renewed_at = λ j b d. goes_on_is ∙ t.renewed_at j b d;
          on = λ h j b. let r = t.on (sym ends_is ∙ h) j b in (given ∙ r.0, r.1);
        }

    -- whose slot works is at work
    at_work_lem : works old ≡ true → at_work p (suc i) ≡ true
    at_work_lem h = sym (suits_tells rule (seen p (suc i)) old (e.slots (suc i))).1 ∙ h

    shown : works y ≡ true → at_work p (suc i) ≡ true
    shown h = at_work_lem (sym (served_works hit old) ∙ ap works (sym here) ∙ h)

  tick_slots : (s : ℕ) → Suits rule (seen q s) (place_of (tick now xs) s)
  tick_slots zero = e.slots zero
  tick_slots (suc i) = tick_slot i

  tick_done : Explained rule q (moved (standing p xs))
  tick_done = record {
    clock = refl;
    explains = record {
      sized = length-map ys (closed (now + 1)) ∙ length_serve xs (pick xs) ∙ e.sized;
      sound = ticking now xs e.sound;
      slots = tick_slots;
    };
  }

  pub tick_step : Stepped rule p (standing p xs) Tick
  tick_step =
      let m = standing p xs in (
        judged_right Ticked told_now (tick_refusal m) (λ a. (t : OneTick) × (a ≡ Ok (Ticked t))) (λ _. (told_now, refl)),
        by_check (tick_refusal m) (λ v. Explained rule (said p Tick (spoken Ticked (judged v told_now))) (changed v m (moved m))) (λ _. tick_done) (λ why _. refused rule p xs e Tick why),
      )

  pub turned : (s : ℕ) → at_work p s ≡ true → Turned rule p s (latest p s) (Ok (Ticked told_now))
  turned zero w = absurd (both_ways (at_work p zero) (e.slots zero).2 w)
  turned (suc i) w = tick_turned i w

  -- who is served, ended or released was at work
  pub serves_worker : (s : ℕ) → serves s (Ok (Ticked told_now)) ≡ true → at_work p s ≡ true
  serves_worker zero h = absurd (nobody_served (pick xs) h)
  serves_worker (suc i) h = at_work_lem i (waits_works (old i) (served_waits xs (pick xs) i picked h))

  pub ends_worker : (s : ℕ) → finishes s (Ok (Ticked told_now)) ≡ true → at_work p s ≡ true
  ends_worker zero h = absurd (both_ways false refl h)
  ends_worker (suc i) h = shown i (ends_works (now + 1) (y i) (sym (ends_is i) ∙ h))

  pub releases_worker : (s : ℕ) → releases s (Ok (Ticked told_now)) ≡ true → at_work p s ≡ true
  releases_worker zero h = absurd (both_ways false refl h)
  releases_worker (suc i) h = shown i (goes_on_works (now + 1) (y i) (sym (goes_on_is i) ∙ h))

  pub never_late_lem : told_now.sets.late.word ≡ 0
  never_late_lem = mask_none (late (now + 1)) ys none_is_late
