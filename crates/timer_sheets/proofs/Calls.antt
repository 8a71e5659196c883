-- The calls that a sheet shows were played on a board.
use Rattle.std.proofs.Common.{◌≡◌, ℕ, zero, suc, ◌+◌, ◌-◌, ◌<◌, ◌≤◌, true, false, ltb, List, [], ◌∷◌, ◌++◌, Some, None, Ok, Option, sym, refl, ap, ◌∙◌, subst, ⊎_elim, arith}
use Rattle.board.proofs.Judged.{advance_accepted}
use Rattle.limits.specs.Ranges.{horizon}
use Rattle.limits.specs.declared.refusal.Refusal.{Refusal}
use Rattle.plans.specs.Reads.{action_of, server_of}
use Rattle.plans.specs.declared.plan.Plan.{Plan}
use Rattle.plans.specs.declared.server.Action.{Action as PlanAction}
use Rattle.plans.specs.declared.server.Server.{Server}
use Rattle.release.specs.Actions.{Meaning}
use Rattle.release.specs.Rules.{WithinShare}
use Rattle.scripts.specs.declared.line.Command.{Command}
use Rattle.scripts.specs.declared.line.Command.TheVariants.{Admit, Leave, Start, Wait}
use Rattle.scripts.specs.declared.line.Line.{Line}
use Rattle.share.proofs.Keeping.{Ran, kept, ran_sound}
use Rattle.share.specs.Answers.{Answer}
use Rattle.share.specs.Plays.{after_call, answer_of, spoken}
use Rattle.share.specs.Share.{Kept}
use Rattle.share.specs.Traces.{Trace, nothing}
use Rattle.share.specs.declared.calls.Call.TheVariants.{Admit as CallAdmit, Start as CallStart, Advance}
use Rattle.share.specs.declared.calls.Outcome.TheVariants.{Done, Started, Advanced}
use Rattle.timer_sheets.proofs.Lines.{Well, strides, turns_add}
use Rattle.timer_sheets.specs.Calls.{call_shown, said_too, shown_after}
use Rattle.timer_sheets.specs.Sheets.{from_plan, in_plan, left_by, next_run, runs, sheet_from, shown, stride}
use Rattle.timer_sheets.specs.Timely.{Timely}
use Rattle.timer_sheets.specs.declared.line.SheetLine.{SheetLine}
use Rattle.slots.proofs.Spans.{largest, turns_clock}
use Rattle.slots.specs.Advances.{Allowed, advanced, leapt, span, turns}
use Rattle.slots.specs.Steps.{Model, admit_after, admit_refusal, arriving, changed, fresh, judged, start_after, start_answer}
use Rattle.std.proofs.lemmas.Bool.{cases_Bool, cond-false, cond-true, ltb-false, ltb-true}
use Rattle.std.specs.Option.{option_map, option_to_list}

shown_append : (p : Plan) (q : Trace) (xs ys : List SheetLine) → shown_after p q (xs ++ ys) ≡ shown_after p (shown_after p q xs) ys
shown_append p q [] ys = refl
shown_append p q (x ∷ xs) ys = shown_append p (said_too q (call_shown p x)) xs ys

-- an advance by as many ticks as an advance makes is that advance
span_again : (m : Model) (n : ℕ) → Well m → 1 ≤ n → m.clock < horizon → span m (span m n) ≡ span m n
span_again m n w lo early =
    let k = span m n in
    let a = (largest m n w lo early).allowed in
    let some = a.some in
    let again = largest m k w some early in
    let within = again.allowed.within in
    let whole : Allowed m k k = record { some = a.some; within = omega arith; early = a.early; same = a.same; quiet = a.quiet } in
    let most = again.most k whole in
    omega arith

module _ (rule : Meaning) (law : WithinShare rule) (p : Plan) where
  -- a run
  run_ran : (q : Trace) (m : Model) (t : ℕ) → Ran rule q m → m.clock < t → t ≤ horizon → Ran rule (said_too q (call_shown p (next_run m t))) (turns (stride m t) m)
  run_ran q m t r l h =
      let w = ran_sound rule law q m r in
      let n = t - m.clock in
      let k = stride m t in
      let s = strides m t w l h in
      let some = s.0 in
      let most = s.1 in
      let again : span m k ≡ k = span_again m n w (omega arith) (omega arith) in
      let ok = advance_accepted m k (omega arith) (omega arith) (omega arith) in
      let answer : ◌≡◌ {A = Answer} (Ok (Advanced (leapt m k))) (answer_of rule m (Advance k)) =
      ap (λ (j : ℕ). Ok (Advanced (leapt m j))) (sym again) ∙ sym (ap (λ (v : Option Refusal). spoken Advanced (judged v (advanced m k))) ok) in
      let after : turns k m ≡ after_call rule m (Advance k) =
      ap (λ (j : ℕ). turns j m) (sym again) ∙ sym (ap (λ (v : Option Refusal). changed v m (turns (span m k) m)) ok) in
      (m, r, answer, after)

  -- all the runs to an instant
  runs_ran : (n t : ℕ) (q : Trace) (m : Model) → Ran rule q m → t ≤ horizon → t - m.clock ≤ n → Ran rule (shown_after p q (runs n t m)) (turns (t - m.clock) m)
  runs_ran zero t q m r h enough = let e : 0 ≡ t - m.clock = omega arith in subst (λ (k : ℕ). Ran rule q (turns k m)) e r
  runs_ran (suc n) t q m r h enough =
      ⊎_elim
      (λ (e : ltb m.clock t ≡ true).
      let l = ltb-true m.clock t e in
      let s = strides m t (ran_sound rule law q m r) l h in
      let some = s.0 in
      let most = s.1 in
      let k = stride m t in
      let z = turns k m in
      let c = turns_clock k m in
      let all : t - z.clock + k ≡ t - m.clock = omega arith in
      let there : turns (t - z.clock) z ≡ turns (t - m.clock) m = turns_add (t - z.clock) k m ∙ ap (λ (j : ℕ). turns j m) all in
      let more = runs_ran n t (said_too q (call_shown p (next_run m t))) z (run_ran q m t r l h) h (omega arith) in
      subst (λ (x : List SheetLine). Ran rule (shown_after p q x) (turns (t - m.clock) m)) (sym (cond-true _ _ _ e))
      (subst (Ran rule (shown_after p (said_too q (call_shown p (next_run m t))) (runs n t z))) there more))
      (λ (e : ltb m.clock t ≡ false).
      let l = ltb-false m.clock t e in
      let none : 0 ≡ t - m.clock = omega arith in
      subst (λ (x : List SheetLine). Ran rule (shown_after p q x) (turns (t - m.clock) m)) (sym (cond-false _ _ _ e))
      (subst (λ (k : ℕ). Ran rule q (turns k m)) none r))
      (cases_Bool (ltb m.clock t))

  -- a line's call
  admit_ran : (q : Trace) (m : Model) (s : ℕ) → Ran rule q m → (o : Option Server) →
      Ran rule (said_too q (option_map (λ v. (CallAdmit s v.cap, spoken (λ _. Done) (in_plan o (λ v. judged (admit_refusal m s v.cap) (tt {0}))))) o)) (from_plan m o (λ v. admit_after m s v.cap))
  admit_ran q m s r None = r
  admit_ran q m s r (Some v) = (m, r, refl, refl)

  start_ran : (q : Trace) (m : Model) (s : ℕ) → Ran rule q m → (o : Option PlanAction) →
      Ran rule (said_too q (option_map (λ k. (CallStart s k.task, spoken Started (in_plan o (λ k. start_answer rule m s (arriving m k.task.load k.task.limit k.task.period))))) o)) (from_plan m o (λ k. start_after rule m s (arriving m k.task.load k.task.limit k.task.period)))
  start_ran q m s r None = r
  start_ran q m s r (Some k) = (m, r, refl, refl)

  call_ran : (q : Trace) (m : Model) (t : ℕ) (c : Command) → Ran rule q m → Ran rule (shown_after p q (option_to_list (shown rule p m t c))) (left_by rule p m c)
  call_ran q m t (Admit s) r = admit_ran q m s r (server_of p s)
  call_ran q m t (Leave s) r = (m, r, refl, refl)
  call_ran q m t (Start s a) r = start_ran q m s r (action_of p s a)
  call_ran q m t Wait r = r

  -- the whole sheet
  sheet_ran : (ls : List Line) (q : Trace) (m : Model) → Timely ls → Ran rule q m → (z : Model) × Ran rule (shown_after p q (sheet_from rule p m ls)) z
  sheet_ran [] q m h r = (m, r)
  sheet_ran (l ∷ ls) q m h r =
      let t = l.instant in
      let n = t - m.clock in
      let z = turns n m in
      let call = option_to_list (shown rule p z t l.command) in
      let rest = sheet_from rule p (left_by rule p z l.command) ls in
      let there = runs_ran n t q m r h.0 (omega arith) in
      let called = call_ran (shown_after p q (runs n t m)) z t l.command there in
      let more = sheet_ran ls (shown_after p (shown_after p q (runs n t m)) call) (left_by rule p z l.command) h.1 called in
      (more.0, subst (λ (x : Trace). Ran rule x more.0) (sym (shown_append p q (runs n t m) (call ++ rest) ∙ shown_append p (shown_after p q (runs n t m)) call rest)) more.1)

  -- the share law of a sheet
  pub sheet_kept : (ls : List Line) → Timely ls → Kept rule (shown_after p nothing (sheet_from rule p fresh ls))
  sheet_kept ls h = let r = sheet_ran ls nothing fresh h refl in kept rule law (shown_after p nothing (sheet_from rule p fresh ls)) r.0 r.1
