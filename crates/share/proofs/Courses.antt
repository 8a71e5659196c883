-- The course of an action along a trace: at work, and then ended for good.
use Rattle.limits.specs.Tasks.{task}
use Rattle.std.proofs.Common.{◌≡◌, ℕ, zero, suc, ◌+◌, ◌-◌, ◌<◌, ◌≤◌, true, false, not, ◌&&◌, eqb, ◌⊎◌, sym, refl, ap, ◌∙◌, subst, inl, inr, ⊎_elim, arith, Ok, is_ok}
use Rattle.limits.proofs.Passed.{or_none, refuse_none}
use Rattle.limits.specs.Checks.{action_check, server_check}
use Rattle.limits.specs.declared.refusal.Refusal.TheVariants.{NotAdmitted, ActionAtWork}
use Rattle.release.proofs.Boundaries.{boundary_le, boundary_order, first_from, first_none}
use Rattle.release.proofs.Values.{Ranged, ranged}
use Rattle.release.specs.Actions.{Action, Completes, Meaning, action, boundary, due, forecast}
use Rattle.release.specs.Rules.{WithinShare}
use Rattle.share.proofs.Counting.{count_empty, count_idle, count_one, count_over, count_past}
use Rattle.share.proofs.Judging.{by_check}
use Rattle.share.proofs.Explain.{standing}
use Rattle.share.proofs.Leading.{Leads, Row, by_checks, row_of}
use Rattle.share.proofs.Seeing.{arrived, latest}
use Rattle.share.proofs.Turning.{Turned, turned}
use Rattle.share.specs.Answers.{Answer, timed, told}
use Rattle.share.specs.Share.{ByChecks, Judged}
use Rattle.share.specs.Traces.{Begins, Trace, admitted, at_work, cap_held, clock_of, ends_in, finishes, nothing, said, served_in, serves, starts}
use Rattle.share.specs.declared.calls.Call.{Call}
use Rattle.share.specs.declared.calls.Call.TheVariants.{Admit, Leave, Start, Tick, Advance}
use Rattle.share.specs.declared.calls.Outcome.TheVariants.{Started, Ticked}
use Rattle.slots.specs.Checks.{start_check}
use Rattle.slots.specs.Steps.{Model, ticked}
use Rattle.std.proofs.lemmas.Bool.{and_left, and_parts, both_ways, cases_Bool, cases_lt, cond-false, cond-true, eq-eqb, eqb-true, ltb-false}

-- what the list of checks says of an accepted start
pub record Granted (rule : Meaning) (p : Trace) (s : ℕ) (k : Action) (a : Answer) : Type 0 where
  pub values : Ranged k
  pub rests : at_work p s ≡ false
  pub answer : a ≡ Ok (Started (forecast rule k))

pub granted_at : (rule : Meaning) (p : Trace) (s load limit period : ℕ) (a : Answer) → ByChecks rule p (Start s (task load limit period)) a → is_ok a ≡ true → Granted rule p s (action (clock_of p) load limit period) a
granted_at rule p s load limit period a r ok =
    let k = action (clock_of p) load limit period in
    by_check (start_check rule s k (admitted p s) (at_work p s) (cap_held p s)) (λ v. Judged v (a ≡ Ok (Started (forecast rule k))) a → Granted rule p s k a)
    (λ none is.
    let x = or_none (server_check s) _ none in
    let y = or_none (action_check load limit period) _ x.1 in
    let z = refuse_none (not (admitted p s)) NotAdmitted _ y.1 in
    let w = refuse_none (at_work p s) ActionAtWork _ z.1 in
    record { values = ranged k y.0; rests = w.0; answer = is })
    (λ why _ is. absurd (both_ways (is_ok a) (ap is_ok is) ok))
    r

pub granted : (rule : Meaning) (p : Trace) (s : ℕ) (k : Action) (a : Answer) → clock_of p ≡ k.arrival → ByChecks rule p (Start s (task k.load k.limit k.period)) a → is_ok a ≡ true → Granted rule p s k a
granted rule p s k a at r ok = subst (λ (t : ℕ). Granted rule p s (action t k.load k.limit k.period) a) at (granted_at rule p s k.load k.limit k.period a r ok)

-- who is at work does not start again
not_again : (rule : Meaning) (p : Trace) (s : ℕ) (c : Call) (a : Answer) → ByChecks rule p c a → at_work p s ≡ true → starts s c a ≡ false
not_again rule p s (Admit t c) a r w = refl
not_again rule p s (Leave t) a r w = refl
not_again rule p s Tick a r w = refl
not_again rule p s (Advance n) a r w = refl
not_again rule p s (Start t asked) a r w =
    ⊎_elim
    (λ (h : (is_ok a && eqb t s) ≡ true).
    let b = and_parts (is_ok a) (eqb t s) h in
    let g = granted_at rule p t asked.load asked.limit asked.period a r b.0 in
    absurd (both_ways (at_work p t) g.rests (ap (at_work p) (eqb-true t s b.1) ∙ w)))
    (λ (h : (is_ok a && eqb t s) ≡ false). h)
    (cases_Bool (is_ok a && eqb t s))

pub record Running (rule : Meaning) (q : Trace) (s : ℕ) (k : Action) : Type 0 where
  pub work : at_work q s ≡ true
  pub mine : latest q s ≡ k
  pub none : ends_in q s k.arrival (clock_of q) ≡ 0
  pub paid : (j : ℕ) → boundary k j ≤ clock_of q → (served_in q s k.arrival (boundary k j) ≡ due rule k j) × (due rule k j < k.load)

pub record Over (rule : Meaning) (q : Trace) (s : ℕ) (k : Action) : Type 0 where
  pub turn : ℕ
  pub reached : boundary k turn ≤ clock_of q
  pub later : k.arrival < boundary k turn
  pub before : ends_in q s k.arrival (boundary k turn - 1) ≡ 0
  pub at_end : ends_in q s k.arrival (boundary k turn) ≡ 1
  pub completes : Completes rule k turn
  pub paid : (j : ℕ) → j ≤ turn → served_in q s k.arrival (boundary k j) ≡ due rule k j

abbrev pub Course : Meaning → Trace → ℕ → Action → Type 0
Course rule q s k = Running rule q s k ⊎ Over rule q s k

module _ (rule : Meaning) (s : ℕ) (k : Action) (r : Ranged k) where
  -- what has ended stays so
  stays : (p : Trace) (c : Call) (a : Answer) → Over rule p s k → Over rule (said p c a) s k
  stays p c a o =
      let r = o.reached in
      record {
        turn = o.turn;
        reached = omega arith;
        later = o.later;
        before = count_over (finishes s) p c a k.arrival (boundary k o.turn - 1) (omega arith) ∙ o.before;
        at_end = count_over (finishes s) p c a k.arrival (boundary k o.turn) r ∙ o.at_end;
        completes = o.completes;
        paid = λ j h. count_over (serves s) p c a k.arrival (boundary k j) (omega (arith, boundary_le k j o.turn h)) ∙ o.paid j h;
      }

  -- an answer that takes no time
  passes : (p : Trace) (c : Call) (a : Answer) → timed a ≡ false → starts s c a ≡ false → Running rule p s k → Running rule (said p c a) s k
  passes p c a t n h =
      let none : (told a).ticks ≡ 0 = omega (arith, ltb-false 0 (told a).ticks t) in
      let same : clock_of (said p c a) ≡ clock_of p = omega arith in
      record {
        work = simp (n, t) h.work;
        mine = cond-false _ _ _ n ∙ h.mine;
        none = ap (ends_in (said p c a) s k.arrival) same ∙ count_idle (finishes s) p c a k.arrival (clock_of p) (and_left (timed a) (finishes s a) t) ∙ h.none;
        paid = λ j b. let x = h.paid j (omega arith) in (count_idle (serves s) p c a k.arrival (boundary k j) (and_left (timed a) (serves s a) t) ∙ x.0, x.1);
      }

  -- a tick
  module _ (p : Trace) (a : Answer) (one : (told a).ticks ≡ 1) (row_is : timed a ≡ true) (t : Turned rule p s k a) (h : Running rule p s k) where
    abbrev q : Trace
    q = said p Tick a

    next : clock_of q ≡ clock_of p + 1
    next = ap (λ n. clock_of p + n) one

    came : k.arrival ≤ clock_of p
    came = subst (λ (x : Action). x.arrival ≤ clock_of p) h.mine (arrived p s)

    tick_ends : finishes s a ≡ true → Over rule q s k
    tick_ends w =
        let r' = t.over w in
        let at = r'.1 in
        let c = came in
        let once = count_one (finishes s) p Tick a k.arrival (clock_of p + 1) row_is w c (omega arith) in
        let past = count_past (finishes s) p k.arrival (clock_of p + 1) (clock_of p) (omega arith) (omega arith) in
        let zero-yet = h.none in
        let n = next in
        let less : boundary k r'.0 - 1 ≡ clock_of p = omega arith in
        record {
          turn = r'.0;
          reached = omega arith;
          later = omega arith;
          before = ap (ends_in q s k.arrival) less ∙ count_over (finishes s) p Tick a k.arrival (clock_of p) (omega arith) ∙ zero-yet;
          at_end = ap (ends_in q s k.arrival) (sym at) ∙ once ∙ ap (λ (n : ℕ). n + 1) (past ∙ zero-yet);
          completes = r'.3;
          paid = λ j l. ⊎_elim
              (λ (o : j < r'.0).
              let b = boundary_order k j r'.0 o in
              let some = r.period_low in
              let low : boundary k j ≤ clock_of p = omega arith in
              count_over (serves s) p Tick a k.arrival (boundary k j) low ∙ (h.paid j low).0)
              (λ (o : r'.0 ≤ j).
              let same : r'.0 ≡ j = omega arith in
              subst (λ (i : ℕ). served_in q s k.arrival (boundary k i) ≡ due rule k i) same (ap (served_in q s k.arrival) (sym at) ∙ r'.2))
              (cases_lt j r'.0);
        }

    tick_on : finishes s a ≡ false → Running rule q s k
    tick_on w =
        let n = next in
        record {
          work = simp (row_is, w) h.work;
          mine = h.mine;
          none = ap (ends_in q s k.arrival) n ∙ count_idle (finishes s) p Tick a k.arrival (clock_of p + 1) (simp (row_is, w) refl) ∙ count_past (finishes s) p k.arrival (clock_of p + 1) (clock_of p) (omega arith) (omega arith) ∙ h.none;
          paid = λ j b. ⊎_elim
              (λ (o : clock_of p < boundary k j).
              let at : boundary k j ≡ clock_of p + 1 = omega arith in
              let r' = t.on w j at in
              (ap (served_in q s k.arrival) at ∙ r'.0, r'.1))
              (λ (o : boundary k j ≤ clock_of p).
              let r' = h.paid j o in
              (count_over (serves s) p Tick a k.arrival (boundary k j) o ∙ r'.0, r'.1))
              (cases_lt (clock_of p) (boundary k j));
        }

    tick_course : Course rule q s k
    tick_course = ⊎_elim (λ (w : finishes s a ≡ true). inr (tick_ends w)) (λ (w : finishes s a ≡ false). inl (tick_on w)) (cases_Bool (finishes s a))

  -- the start
  module _ (end : ℕ) where
    abbrev started : Trace → Trace
    started p = said p (Start s (task k.load k.limit k.period)) (Ok (Started end))

    at_once : (p : Trace) → clock_of p ≡ k.arrival → (j : ℕ) → boundary k j ≤ clock_of p → (served_in p s k.arrival (boundary k j) ≡ due rule k j) × (due rule k j < k.load)
    at_once p at zero b =
        let pos = r.load_low in
        let first = first_from k r.period_low in
        let no = first_none rule k (omega arith) in
        let e = count_empty (serves s) p k.arrival (boundary k zero) (omega arith) in
        (omega arith, omega arith)
    at_once p at (suc j) b =
        let some = r.period_low in
        let first = first_from k r.period_low in
        let o = boundary_order k 0 (suc j) (omega arith) in
        absurd (omega arith)

    begun : (p : Trace) → clock_of p ≡ k.arrival → Running rule (started p) s k
    begun p at =
        let z = eq-eqb s s refl in
        record {
          work = cond-true _ _ _ z;
          mine = cond-true _ _ _ z ∙ ap (λ (t : ℕ). action t k.load k.limit k.period) at;
          none = count_empty (finishes s) p k.arrival (clock_of p + 0) (omega arith);
          paid = λ j b. at_once p at j (omega arith);
        }

    module _ (law : WithinShare rule) where
      onward : (p : Trace) (c : Call) (a : Answer) (m : Model) → Leads rule (said p c a) m → Running rule p s k → Course rule (said p c a) s k
      onward p c a m l h =
          ⊎_elim
          (λ (t : timed a ≡ true). go (row_of rule law p c a m l t))
          (λ (f : timed a ≡ false). inl (passes p c a f (not_again rule p s c a (by_checks rule law p c a m l) h.work) h))
          (cases_Bool (timed a))
        where
          go : Row rule p c a → Course rule (said p c a) s k
          go w =
              let b = ticked (standing p w.slots) in
              let u : Turned rule p s k (Ok (Ticked b)) = subst (λ (x : Action). Turned rule p s x (Ok (Ticked b))) h.mine (turned rule p w.slots w.explains s h.work) in
              subst (λ (x : Call). Course rule (said p x a) s k) (sym w.call) (subst (λ (x : Answer). Course rule (said p Tick x) s k) (sym w.answer) (tick_course p (Ok (Ticked b)) refl refl u h))

      pub course : (q : Trace) (m : Model) → Leads rule q m → (p : Trace) → clock_of p ≡ k.arrival → Begins (started p) q → Course rule q s k
      course nothing m l p at b = let z : ◌≡◌ {A = ℕ} 0 1 = cc in absurd (omega arith)
      course (said q c a) m l p at b =
          ⊎_elim
          (λ (e : started p ≡ said q c a). subst (λ (x : Trace). Course rule x s k) e (inl (begun p at)))
          (λ (o : Begins (started p) q).
          ⊎_elim
          (λ (h : Running rule q s k). onward q c a m l h)
          (λ (h : Over rule q s k). inr (stays q c a h))
          (course q l.0 l.1 p at o))
          b
