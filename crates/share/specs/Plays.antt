-- What calls answer on a board, and what they leave.
use Rattle.limits.specs.declared.refusal.Refusal.{Refusal}
use Rattle.release.specs.Actions.{Meaning}
use Rattle.share.specs.Answers.{Answer}
use Rattle.share.specs.declared.calls.Outcome.{Outcome}
use Rattle.share.specs.declared.calls.Outcome.TheVariants.{Done, Started, Ticked, Advanced}
use Rattle.share.specs.declared.calls.Call.{Call}
use Rattle.share.specs.declared.calls.Call.TheVariants.{Admit, Leave, Start, Tick, Advance}
use Rattle.slots.specs.Advances.{advance_after, advance_refusal, advanced}
use Rattle.slots.specs.Steps.{Model, admit_after, admit_refusal, arriving, judged, leave_after, leave_refusal, start_after, start_answer, tick_after, tick_refusal, ticked}
use Rattle.std.specs.Prelude.{List, [], ◌∷◌, Result}
use Rattle.std.specs.Result.{result_map_both}

-- a board's result as an answer
abbrev pub spoken : {T : Type 0} → (T → Outcome) → Result T Refusal → Answer
spoken f r = result_map_both f (λ why. why) r

-- what a call answers
abbrev pub answer_of : Meaning → Model → Call → Answer
answer_of rule m (Admit s c) = spoken (λ _. Done) (judged (admit_refusal m s c) (tt {0}))
answer_of rule m (Leave s) = spoken (λ _. Done) (judged (leave_refusal m s) (tt {0}))
answer_of rule m (Start s asked) = spoken Started (start_answer rule m s (arriving m asked.load asked.limit asked.period))
answer_of rule m Tick = spoken Ticked (judged (tick_refusal m) (ticked m))
answer_of rule m (Advance n) = spoken Advanced (judged (advance_refusal m n) (advanced m n))

-- and what it leaves
abbrev pub after_call : Meaning → Model → Call → Model
after_call rule m (Admit s c) = admit_after m s c
after_call rule m (Leave s) = leave_after m s
after_call rule m (Start s asked) = start_after rule m s (arriving m asked.load asked.limit asked.period)
after_call rule m Tick = tick_after m
after_call rule m (Advance n) = advance_after m n

-- what a list of calls answers, one call after the other
abbrev pub answers_of : Meaning → Model → List Call → List Answer
answers_of rule m [] = []
answers_of rule m (c ∷ cs) = answer_of rule m c ∷ answers_of rule (after_call rule m c) cs
