-- A trace tells the slots; admit, leave and start keep it so.
use Rattle.limits.specs.Tasks.{task}
use Rattle.std.proofs.Common.{◌≡◌, ℕ, zero, suc, ◌+◌, ◌-◌, ◌*◌, ◌<◌, ◌≤◌, Bool, true, false, not, ltb, List, [], ◌∷◌, length, get_or, set, None, sum_by, Option, sym, refl, ap, ◌∙◌, subst, ⊎_elim, add-zero, arith, Ok, Err}
use Rattle.board.proofs.Begins.{opening}
use Rattle.board.proofs.Judged.{cap_none, server_none}
use Rattle.limits.proofs.Passed.{or_none, refuse_none}
use Rattle.limits.specs.Checks.{action_check, cap_check, server_check}
use Rattle.limits.specs.Ranges.{horizon, servers, unit}
use Rattle.limits.specs.declared.refusal.Refusal.{Refusal}
use Rattle.limits.specs.declared.refusal.Refusal.TheVariants.{NotAdmitted, AlreadyAdmitted, CapsExceedProcessor, ActionAtWork, LimitAboveCap, ForecastPastHorizon}
use Rattle.release.proofs.Values.{ranged}
use Rattle.release.specs.Actions.{Action, Meaning, action, forecast}
use Rattle.release.specs.Rules.{WithinShare}
use Rattle.share.proofs.Judging.{by_check, judged_right}
use Rattle.share.proofs.Pace.{Seen, Suits, open_pace, suits_tells}
use Rattle.share.proofs.Seeing.{not_accepted, seen, seen_same, seen_started}
use Rattle.share.specs.Answers.{Answer}
use Rattle.share.specs.Plays.{after_call, answer_of, spoken}
use Rattle.share.specs.Share.{ByChecks, Judged}
use Rattle.share.specs.Traces.{Trace, admitted, at_work, cap_held, caps_held, clock_of, said}
use Rattle.share.specs.declared.calls.Call.{Call}
use Rattle.share.specs.declared.calls.Call.TheVariants.{Admit, Leave, Start}
use Rattle.share.specs.declared.calls.Outcome.TheVariants.{Done, Started}
use Rattle.slots.proofs.Starting.{admitting, leaving, starting}
use Rattle.slots.specs.Checks.{admit_check, leave_check, start_check}
use Rattle.slots.specs.Slots.{Sound, cap_of, total}
use Rattle.slots.specs.Steps.{Model, admit_refusal, changed, judged, leave_refusal, opened, present, put, slot_of, start_refusal, works}
use Rattle.slots.specs.declared.slot.Slot.{Slot}
use Rattle.slots.specs.declared.slot.Slot.TheVariants.{Absent, Resting, Working}
use Rattle.std.proofs.lemmas.List.{get_or-set_other, get_or-set_same, length-set}
use Rattle.std.proofs.lemmas.List.Sums.{sum_by-cons}
use Rattle.std.proofs.lemmas.Bool.{both_ways, cases_eq, cond-true, eq-eqb, ltb-false, ne_eqb, not-false}
use Rattle.std.specs.List.{range_with_len}

-- the slot of the server s; server 0 has none
abbrev pub place_of : List Slot → ℕ → Slot
place_of xs zero = Absent
place_of xs (suc i) = get_or xs i Absent

pub slot_is : (xs : List Slot) (s : ℕ) → 1 ≤ s → slot_of xs s ≡ place_of xs s
slot_is xs zero h = absurd (omega arith)
slot_is xs (suc i) h = let e : suc i - 1 ≡ i = omega arith in ap (λ n. get_or xs n Absent) e

-- the board at the clock that the trace tells
abbrev pub standing : Trace → List Slot → Model
standing p xs = record { clock = clock_of p; slots = xs }

-- the slots are those that the trace tells
pub record Explains (rule : Meaning) (p : Trace) (xs : List Slot) : Type 0 where
  pub sized : length xs ≡ servers
  pub sound : Sound (clock_of p) xs
  pub slots : (s : ℕ) → Suits rule (seen p s) (place_of xs s)

pub record Explained (rule : Meaning) (p : Trace) (m : Model) : Type 0 where
  pub clock : m.clock ≡ clock_of p
  pub explains : Explains rule p m.slots

absent_is : (x : Slot) → present x ≡ false → x ≡ Absent
absent_is Absent h = refl
absent_is (Resting c) h = absurd (both_ways true h refl)
absent_is (Working w) h = absurd (both_ways true h refl)

resting_is : (x : Slot) → present x ≡ true → works x ≡ false → x ≡ Resting (cap_of x)
resting_is Absent h k = absurd (both_ways false refl h)
resting_is (Resting c) h k = refl
resting_is (Working w) h k = absurd (both_ways true k refl)

-- a sum over the slots is one over the servers
total_servers : (g : ℕ → ℕ) (xs : List Slot) (s : ℕ) → ((i : ℕ) → cap_of (get_or xs i Absent) ≡ g (i + s)) → total cap_of xs ≡ sum_by g (range_with_len s (length xs))
total_servers g [] s h = refl
total_servers g (x ∷ xs) s h =
    let r = total_servers g xs (s + 1) (λ i. h (suc i) ∙ ap g (omega arith)) in
    let z : cap_of x ≡ g s = h 0 ∙ ap g (omega arith) in
    let c = sum_by-cons g s (range_with_len (s + 1) (length xs)) in
    omega arith

module _ (rule : Meaning) (p : Trace) (xs : List Slot) (e : Explains rule p xs) where
  -- a call that takes no time leaves the soundness at the clock
  same_clock : (c : Call) (a : Answer) (ys : List Slot) → clock_of (said p c a) ≡ clock_of p → Sound (clock_of p) ys → Sound (clock_of (said p c a)) ys
  same_clock c a ys same h = subst (λ (t : ℕ). Sound t ys) (sym same) h

  -- a refusal changes nothing that the trace tells
  pub refused : (c : Call) (why : Refusal) → Explained rule (said p c (Err why)) (standing p xs)
  refused c why = record {
    clock = sym (add-zero (clock_of p));
    explains = record {
      sized = e.sized;
      sound = same_clock c (Err why) xs (add-zero (clock_of p)) e.sound;
      slots = λ s. subst (λ (o : Seen). Suits rule o (place_of xs s)) (sym (seen_same p c (Err why) s refl (not_accepted s c (Err why) refl))) (e.slots s);
    };
  }

  pub tells : (s : ℕ) → 1 ≤ s → (present (slot_of xs s) ≡ admitted p s) × (works (slot_of xs s) ≡ at_work p s) × (cap_of (slot_of xs s) ≡ cap_held p s)
  tells s h = suits_tells rule (seen p s) (slot_of xs s) (subst (Suits rule (seen p s)) (sym (slot_is xs s h)) (e.slots s))

  pub held : total cap_of xs ≡ caps_held p
  unfolding caps_held
  held = total_servers (cap_held p) xs 1 (λ i. (suits_tells rule (seen p (suc i)) (get_or xs i Absent) (e.slots (suc i))).2 ∙ ap (cap_held p) (omega arith)) ∙ ap (λ n. sum_by (cap_held p) (range_with_len 1 n)) e.sized

  -- one slot is written, and the others are told as before
  module _ (c : Call) (a : Answer) (still : clock_of (said p c a) ≡ clock_of p) (s : ℕ) (lo : 1 ≤ s) (hi : s ≤ servers) (x : Slot) where
    abbrev q : Trace
    q = said p c a

    put_keeps : Sound (clock_of p) (set xs (s - 1) x) → Suits rule (seen q s) x → ((t : ℕ) → (s ≡ t → ⊥) → seen q t ≡ seen p t) → Explained rule q (put (standing p xs) s x)
    put_keeps sound here others = record {
      clock = sym still;
      explains = record {
        sized = length-set xs (s - 1) x ∙ e.sized;
        sound = same_clock c a (set xs (s - 1) x) still sound;
        slots = go;
      };
    }
      where
        go : (t : ℕ) → Suits rule (seen q t) (place_of (set xs (s - 1) x) t)
        go zero = subst (λ (o : Seen). Suits rule o Absent) (sym (others zero (omega arith))) (e.slots zero)
        go (suc j) =
            ⊎_elim
            (λ (k : s ≡ suc j).
            let n : s - 1 ≡ j = omega arith in
            let i : j < length xs = omega (arith, e.sized) in
            let is : get_or (set xs (s - 1) x) j Absent ≡ x = ap (λ (n : ℕ). get_or (set xs n x) j Absent) n ∙ get_or-set_same xs j x Absent i in
            subst (λ (t : ℕ). Suits rule (seen q t) (get_or (set xs (s - 1) x) j Absent)) k (subst (Suits rule (seen q s)) (sym is) here))
            (λ (k : s ≡ suc j → ⊥).
            let is = get_or-set_other xs (s - 1) j x Absent (λ (z : j ≡ s - 1). k (omega arith)) in
            subst (λ (o : Seen). Suits rule o (get_or (set xs (s - 1) x) j Absent)) (sym (others (suc j) k)) (subst (Suits rule (seen p (suc j))) (sym is) (e.slots (suc j))))
            (cases_eq s (suc j))

-- a call is answered as the checks say, and the trace with it tells the board after it
abbrev pub Stepped : Meaning → Trace → Model → Call → Type 0
Stepped rule p m c = ByChecks rule p c (answer_of rule m c) × Explained rule (said p c (answer_of rule m c)) (after_call rule m c)

module _ (rule : Meaning) (p : Trace) (xs : List Slot) (e : Explains rule p xs) where
  abbrev m : Model
  m = standing p xs

  admit_check_lem : (s c : ℕ) → admit_refusal m s c ≡ admit_check s c (admitted p s) (caps_held p)
  admit_check_lem zero c = refl
  admit_check_lem (suc i) c = ap (λ (x : Bool). admit_check (suc i) c x (total cap_of xs)) (tells rule p xs e (suc i) (omega arith)).0 ∙ ap (admit_check (suc i) c (admitted p (suc i))) (held rule p xs e)

  admit_done : (s c : ℕ) → admit_refusal m s c ≡ None → Explained rule (said p (Admit s c) (Ok Done)) (put m s (Resting c))
  admit_done s c w =
      let x = slot_of xs s in
      let a = or_none (server_check s) _ w in
      let b = or_none (cap_check c) _ a.1 in
      let d = refuse_none (present x) AlreadyAdmitted _ b.1 in
      let f = refuse_none (ltb unit (total cap_of xs + c)) CapsExceedProcessor None d.1 in
      let range = server_none s a.0 in
      let none = absent_is x d.0 in
      let z = eq-eqb s s refl in
      put_keeps rule p xs e (Admit s c) (Ok Done) (add-zero (clock_of p)) s range.0 range.1 (Resting c)
      (admitting (clock_of p) xs (s - 1) (omega (arith, e.sized)) e.sound c none (cap_none c b.0).0 (ltb-false unit (total cap_of xs + c) f.0))
      (cond-true _ _ _ z, cond-true _ _ _ z, sym (tells rule p xs e s range.0).1 ∙ ap works none)
      (λ t ne. seen_same p (Admit s c) (Ok Done) t refl (record { admit = ne_eqb s t ne; leave = refl; start = refl }))

  pub admit_step : (s c : ℕ) → Stepped rule p m (Admit s c)
  admit_step s c =
      let a = answer_of rule m (Admit s c) in (
        subst (λ (v : Option Refusal). Judged v (a ≡ Ok Done) a) (admit_check_lem s c) (judged_right (λ _. Done) (tt {0}) (admit_refusal m s c) (λ a. a ≡ Ok Done) (λ _. refl)),
        by_check (admit_refusal m s c) (λ v. Explained rule (said p (Admit s c) (spoken (λ _. Done) (judged v (tt {0})))) (changed v m (put m s (Resting c)))) (admit_done s c) (λ why _. refused rule p xs e (Admit s c) why),
      )

  leave_check_lem : (s : ℕ) → leave_refusal m s ≡ leave_check s (admitted p s) (at_work p s)
  leave_check_lem zero = refl
  leave_check_lem (suc i) =
      let r = tells rule p xs e (suc i) (omega arith) in
      ap (λ (x : Bool). leave_check (suc i) x (works (slot_of xs (suc i)))) r.0 ∙ ap (leave_check (suc i) (admitted p (suc i))) r.1

  leave_done : (s : ℕ) → leave_refusal m s ≡ None → Explained rule (said p (Leave s) (Ok Done)) (put m s Absent)
  leave_done s w =
      let x = slot_of xs s in
      let a = or_none (server_check s) _ w in
      let b = refuse_none (not (present x)) NotAdmitted _ a.1 in
      let d = refuse_none (works x) ActionAtWork None b.1 in
      let range = server_none s a.0 in
      let z = eq-eqb s s refl in
      put_keeps rule p xs e (Leave s) (Ok Done) (add-zero (clock_of p)) s range.0 range.1 Absent
      (leaving (clock_of p) xs (s - 1) (omega (arith, e.sized)) e.sound (cap_of x) (resting_is x (not-false (present x) b.0) d.0))
      (cond-true _ _ _ z, cond-true _ _ _ z, sym (tells rule p xs e s range.0).1 ∙ d.0)
      (λ t ne. seen_same p (Leave s) (Ok Done) t refl (record { admit = refl; leave = ne_eqb s t ne; start = refl }))

  pub leave_step : (s : ℕ) → Stepped rule p m (Leave s)
  leave_step s =
      let a = answer_of rule m (Leave s) in (
        subst (λ (v : Option Refusal). Judged v (a ≡ Ok Done) a) (leave_check_lem s) (judged_right (λ _. Done) (tt {0}) (leave_refusal m s) (λ a. a ≡ Ok Done) (λ _. refl)),
        by_check (leave_refusal m s) (λ v. Explained rule (said p (Leave s) (spoken (λ _. Done) (judged v (tt {0})))) (changed v m (put m s Absent))) (leave_done s) (λ why _. refused rule p xs e (Leave s) why),
      )

  -- an action that arrives
  module _ (law : WithinShare rule) (s load limit period : ℕ) where
    abbrev k : Action
    k = action (clock_of p) load limit period

    abbrev c : Call
    c = Start s (task load limit period)

    abbrev w : Slot
    w = Working (opened rule (cap_of (slot_of xs s)) k)

    start_check_lem : (s : ℕ) → start_refusal rule m s k ≡ start_check rule s k (admitted p s) (at_work p s) (cap_held p s)
    start_check_lem zero = refl
    start_check_lem (suc i) =
        let x = slot_of xs (suc i) in
        let r = tells rule p xs e (suc i) (omega arith) in
        ap (λ (b : Bool). start_check rule (suc i) k b (works x) (cap_of x)) r.0
        ∙ ap (λ (b : Bool). start_check rule (suc i) k (admitted p (suc i)) b (cap_of x)) r.1
        ∙ ap (start_check rule (suc i) k (admitted p (suc i)) (at_work p (suc i))) r.2

    start_done : start_refusal rule m s k ≡ None → Explained rule (said p c (Ok (Started (forecast rule k)))) (put m s w)
    start_done none =
        let x = slot_of xs s in
        let a = or_none (server_check s) _ none in
        let b = or_none (action_check load limit period) _ a.1 in
        let d = refuse_none (not (present x)) NotAdmitted _ b.1 in
        let f = refuse_none (works x) ActionAtWork _ d.1 in
        let g = refuse_none (ltb (cap_of x * period) (limit * unit)) LimitAboveCap _ f.1 in
        let h = refuse_none (ltb horizon (forecast rule k)) ForecastPastHorizon None g.1 in
        let range = server_none s a.0 in
        let r = ranged k b.0 in
        let there = not-false (present x) d.0 in
        let is = tells rule p xs e s range.0 in
        let fits = (opening rule law k (cap_of x) r (ltb-false (cap_of x * period) (limit * unit) g.0) (ltb-false horizon (forecast rule k) h.0)).fits in
        put_keeps rule p xs e c (Ok (Started (forecast rule k))) (add-zero (clock_of p)) s range.0 range.1 w
        (starting (clock_of p) xs (s - 1) (omega (arith, e.sized)) e.sound (opened rule (cap_of x) k) (resting_is x there f.0) fits)
        (subst (λ (o : Seen). Suits rule o w) (sym (seen_started p s load limit period (forecast rule k))) (sym is.0 ∙ there, sym is.2, refl, open_pace rule (cap_of x) k r))
        (λ t ne. seen_same p c (Ok (Started (forecast rule k))) t refl (record { admit = refl; leave = refl; start = ne_eqb s t ne }))

    pub start_step : Stepped rule p m c
    start_step =
        let a = answer_of rule m c in (
          subst (λ (v : Option Refusal). Judged v (a ≡ Ok (Started (forecast rule k))) a) (start_check_lem s) (judged_right Started (forecast rule k) (start_refusal rule m s k) (λ a. a ≡ Ok (Started (forecast rule k))) (λ _. refl)),
          by_check (start_refusal rule m s k) (λ v. Explained rule (said p c (spoken Started (judged v (forecast rule k)))) (changed v m (put m s w))) start_done (λ why _. refused rule p xs e c why),
        )
