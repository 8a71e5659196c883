-- The share law holds of every trace of single ticks that a board leads to.
use Rattle.limits.specs.Tasks.{task}
use Rattle.std.proofs.Common.{◌≡◌, ℕ, zero, suc, ◌+◌, ◌-◌, ◌<◌, ◌≤◌, true, false, ◌&&◌, eqb, sym, refl, ap, ◌∙◌, subst, inl, inr, ⊎_elim, arith, Ok, is_ok}
use Rattle.release.proofs.Boundaries.{boundary_le, boundary_order, completes_once, first_from, forecast_is, no_less, no_more}
use Rattle.release.specs.Actions.{Action, Completes, Meaning, action, amount, begins, boundary, due, forecast}
use Rattle.release.specs.Rules.{WithinShare}
use Rattle.share.proofs.Counting.{count_empty, count_idle, count_mono, count_past, count_split}
use Rattle.share.proofs.Courses.{Course, Granted, Over, Running, course, granted, granted_at}
use Rattle.share.proofs.Explain.{held, standing}
use Rattle.share.proofs.Leading.{Leads, Row, by_checks, explained, led, row_of}
use Rattle.share.proofs.Turning.{Turned, ends_worker, never_late_lem, releases_worker, serves_worker, turned}
use Rattle.share.specs.Answers.{Answer, timed, told}
use Rattle.share.specs.Share.{ActionShare, Began, ByChecks, Ended, Lasts, Share, TickShare, WorksOn}
use Rattle.share.specs.Traces.{Begins, Trace, at_work, clock_of, ends_in, finishes, nothing, said, served_in, serves, starts}
use Rattle.share.specs.declared.calls.Call.{Call}
use Rattle.share.specs.declared.calls.Call.TheVariants.{Admit, Leave, Start, Tick, Advance}
use Rattle.share.specs.declared.calls.Outcome.TheVariants.{Started, Ticked}
use Rattle.slots.specs.Steps.{Model, ticked}
use Rattle.std.proofs.lemmas.Bool.{and_parts, both_ways, cases_Bool, cases_lt, cases_order, cond-false, cond-true, eqb-true}

-- who is at work began an action that has not ended
abbrev AtIt : Trace → ℕ → Type 0
AtIt q s = (k : Action) × WorksOn q s k

began_now : (rule : Meaning) (p : Trace) (s : ℕ) (c : Call) (a : Answer) → ByChecks rule p c a → starts s c a ≡ true → AtIt (said p c a) s
began_now rule p s (Admit t k) a r h = absurd (both_ways false refl h)
began_now rule p s (Leave t) a r h = absurd (both_ways false refl h)
began_now rule p s Tick a r h = absurd (both_ways false refl h)
began_now rule p s (Advance n) a r h = absurd (both_ways false refl h)
began_now rule p s (Start t asked) a r h =
    let b = and_parts (is_ok a) (eqb t s) h in
    let k = action (clock_of p) asked.load asked.limit asked.period in
    let g = granted_at rule p t asked.load asked.limit asked.period a r b.0 in
    let e = forecast rule k in
    let same = eqb-true t s b.1 in
    let z : ends_in (said p (Start t asked) (Ok (Started e))) s (clock_of p) (clock_of p + 0) ≡ 0 = count_empty (finishes s) p (clock_of p) (clock_of p + 0) (omega arith) in
    let i : AtIt (said p (Start t asked) (Ok (Started e))) s = (k, (e, record { before = p; answer = Ok (Started e); arrives = refl; accepts = refl; forecasts = refl; part = inl (ap (λ (x : ℕ). said p (Start x asked) (Ok (Started e))) (sym same)) }, z)) in
    subst (λ (x : Answer). AtIt (said p (Start t asked) x) s) (sym g.answer) i

module _ (rule : Meaning) (law : WithinShare rule) where
  at_it : (q : Trace) (m : Model) → Leads rule q m → (s : ℕ) → at_work q s ≡ true → AtIt q s
  at_it nothing m l s w = absurd (both_ways false refl w)
  at_it (said p c a) m l s w =
      ⊎_elim
      (λ (h : starts s c a ≡ true). began_now rule p s c a (by_checks rule law p c a m l) h)
      (λ (h : starts s c a ≡ false).
      ⊎_elim
      (λ (g : (timed a && finishes s a) ≡ true). absurd (both_ways _ (cond-false _ _ _ h ∙ cond-true _ _ _ g) w))
      (λ (g : (timed a && finishes s a) ≡ false).
      let r = at_it p l.0 l.1 s (sym (cond-false _ _ _ h ∙ cond-false _ _ _ g) ∙ w) in
      let b = r.1.1 in
      let z : ends_in (said p c a) s r.0.arrival (clock_of (said p c a)) ≡ 0 =
      count_idle (finishes s) p c a r.0.arrival (clock_of (said p c a)) g ∙ count_past (finishes s) p r.0.arrival (clock_of (said p c a)) (clock_of p) (omega arith) (omega arith) ∙ r.1.2 in
      let i : AtIt (said p c a) s = (r.0, (r.1.0, record { before = b.before; answer = b.answer; arrives = b.arrives; accepts = b.accepts; forecasts = b.forecasts; part = inr b.part }, z)) in i)
      (cases_Bool (timed a && finishes s a)))
      (cases_Bool (starts s c a))

  -- an action that began
  module _ (all : Trace) (m : Model) (leads : Leads rule all m) (s : ℕ) (k : Action) (e : ℕ) (b : Began all s k e) where
    abbrev began : Trace → Answer → Trace
    began p a = said p (Start s (task k.load k.limit k.period)) a

    ok : Granted rule b.before s k b.answer
    ok =
        let l = led rule (began b.before b.answer) all m b.part leads in
        granted rule b.before s k b.answer b.arrives (by_checks rule law b.before (Start s (task k.load k.limit k.period)) b.answer l.0 l.1) b.accepts

    promised : e ≡ forecast rule k
    promised = sym b.forecasts ∙ ap (λ (a : Answer). (told a).end) ok.answer

    run : Course rule all s k
    run = course rule s k ok.values (forecast rule k) law all m leads b.before b.arrives (subst (λ (a : Answer). Begins (began b.before a) all) ok.answer b.part)

    by_boundary : (j : ℕ) → Lasts all s k (boundary k j) → served_in all s k.arrival (boundary k j) ≡ due rule k j
    by_boundary j l =
        ⊎_elim
        (λ (r : Running rule all s k). (r.paid j l.0).0)
        (λ (o : Over rule all s k).
        ⊎_elim
        (λ (g : o.turn < j).
        let some = ok.values.period_low in
        let far = boundary_order k o.turn j g in
        let one = o.at_end in
        let none = l.1 in
        let more = count_mono (finishes s) all k.arrival (boundary k o.turn) (boundary k j - 1) (omega arith) in
        absurd (omega arith))
        (λ (g : j ≤ o.turn). o.paid j g)
        (cases_lt o.turn j))
        run

    by_stretch : (j : ℕ) → Lasts all s k (boundary k j) → served_in all s (begins k j) (boundary k j) ≡ amount rule k j
    by_stretch zero l = let r = by_boundary zero l in omega arith
    by_stretch (suc j) l =
        let first = first_from k ok.values.period_low in
        let near = boundary_le k j (suc j) (omega arith) in
        let reached = l.0 in
        let none = l.1 in
        let less = count_mono (finishes s) all k.arrival (boundary k j - 1) (boundary k (suc j) - 1) (omega arith) in
        let x = by_boundary j (omega arith, omega arith) in
        let y = by_boundary (suc j) l in
        let z = count_split (serves s) all k.arrival (boundary k j) (boundary k (suc j)) (omega arith) near in
        omega arith

    -- where it ended
    end_is : (t : ℕ) → Ended all s k t → (j : ℕ) × (t ≡ boundary k j) × (t ≤ clock_of all) × Completes rule k j
    end_is t h =
        ⊎_elim
        (λ (r : Running rule all s k).
        let none = r.none in
        let some = h.2 in
        absurd (⊎_elim
        (λ (g : t < clock_of all). omega (arith, count_mono (finishes s) all k.arrival t (clock_of all) (omega arith)))
        (λ (g : clock_of all ≤ t). omega (arith, count_past (finishes s) all k.arrival t (clock_of all) g (omega arith)))
        (cases_lt t (clock_of all))))
        (λ (o : Over rule all s k).
        let B = boundary k o.turn in
        let before = o.before in
        let one = o.at_end in
        let reached = o.reached in
        let zero-before = h.1 in
        let some = h.2 in
        let at : t ≡ B =
        ⊎_elim (λ (x : t ≡ B). x)
        (⊎_elim
        (λ (g : t < B). absurd (omega (arith, count_mono (finishes s) all k.arrival t (B - 1) (omega arith))))
        (λ (g : B < t). absurd (omega (arith, count_mono (finishes s) all k.arrival B (t - 1) (omega arith)))))
        (cases_order t B) in
        let r : (j : ℕ) × (t ≡ boundary k j) × (t ≤ clock_of all) × Completes rule k j = (o.turn, at, omega arith, o.completes) in r)
        run

    ends_at : (j : ℕ) → boundary k j ≤ clock_of all → Completes rule k j → Ended all s k (boundary k j)
    ends_at j h c =
        ⊎_elim
        (λ (r : Running rule all s k). let x = (r.paid j h).1 in let y = c.0 in absurd (omega arith))
        (λ (o : Over rule all s k).
        let one = o.at_end in
        subst (λ (i : ℕ). Ended all s k (boundary k i)) (sym (completes_once rule k j o.turn c o.completes)) (o.later, o.before, omega arith))
        run

    action_share : ActionShare rule all s k e
    action_share =
        let v = ok.values in
        record {
          stretches_served = by_stretch;
          served_by_boundary = by_boundary;
          ends_only_there = end_is;
          ends_there = ends_at;
          takes_at_least = λ t h. let r = end_is t h in let least = no_less rule k v.limit_low v.period_low r.0 r.3 law in omega (arith, r.1);
          takes_at_most = λ t h. let r = end_is t h in let most = no_more rule k v.limit_low v.period_low r.0 r.3 in omega (arith, r.1);
          ends_as_forecast = λ t h. let r = end_is t h in r.1 ∙ forecast_is rule k r.0 v.limit_low r.3 ∙ sym promised;
        }

    -- whoever works on it runs it
    running : ends_in all s k.arrival (clock_of all) ≡ 0 → Running rule all s k
    running none =
        ⊎_elim
        (λ (r : Running rule all s k). r)
        (λ (o : Over rule all s k).
        let one = o.at_end in
        let more = count_mono (finishes s) all k.arrival (boundary k o.turn) (clock_of all) o.reached in
        absurd (omega arith))
        run

  -- a tick
  module _ (q : Trace) (m : Model) (leads : Leads rule q m) (c : Call) (a : Answer) (w : Row rule q c a) where
    abbrev b : Answer
    b = Ok (Ticked (ticked (standing q w.slots)))

    turns_on : (s : ℕ) (k : Action) → WorksOn q s k → Turned rule q s k b
    turns_on s k o =
        let u = running q m leads s k o.0 o.1 o.2 in
        subst (λ (z : Action). Turned rule q s z b) u.mine (turned rule q w.slots w.explains s u.work)

    tick_share : TickShare rule q b
    tick_share = record {
      serves_at_work = λ s h. at_it q m leads s (serves_worker rule q w.slots w.explains s h);
      never_late = never_late_lem rule q w.slots w.explains;
      releases_tell = λ s. (
        (λ h.
            let i = at_it q m leads s (releases_worker rule q w.slots w.explains s h) in
            let z = (turns_on s i.0 i.1).renews h in
            (i.0, i.1, z.0, z.1, z.2)),
        (λ h. (turns_on s h.0 h.1).renewed_at h.2 h.3 h.4),
      );
      ends_tell = λ s. (
        (λ h.
            let i = at_it q m leads s (ends_worker rule q w.slots w.explains s h) in
            let z = (turns_on s i.0 i.1).over h in
            (i.0, i.1, z.0, z.1, z.3)),
        (λ h. ⊎_elim
            (λ (e : finishes s b ≡ true). e)
            (λ (e : finishes s b ≡ false). let d = (turns_on s h.0 h.1).on e h.2 (sym h.3) in absurd (omega (arith, d.1, h.4.0)))
            (cases_Bool (finishes s b))),
      );
    }

  pub share_of : (all : Trace) (m : Model) → Leads rule all m → Share rule all
  share_of all m leads = record {
    ticks = λ q c a b t.
        let l = led rule (said q c a) all m b leads in
        let w = row_of rule law q c a l.0 l.1 t in
        subst (TickShare rule q) (sym w.answer) (tick_share q l.1.0 l.1.1 c a w);
    actions = action_share all m leads;
    caps_fit = λ q b.
        let l = led rule q all m b leads in
        let x = (explained rule law q l.0 l.1).explains in
        omega (arith, held rule q l.0.slots x, x.sound.caps);
    answers_by_checks = λ q c a b. let l = led rule (said q c a) all m b leads in by_checks rule law q c a l.0 l.1;
  }
