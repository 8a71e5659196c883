-- What a list of checks makes of an answer.
use Rattle.limits.specs.declared.refusal.Refusal.{Refusal}
use Rattle.share.specs.Answers.{Answer}
use Rattle.share.specs.Plays.{spoken}
use Rattle.share.specs.Share.{Judged}
use Rattle.share.specs.declared.calls.Outcome.{Outcome}
use Rattle.slots.specs.Steps.{judged}
use Rattle.std.proofs.Common.{◌≡◌, Some, None, Ok, Option, refl}

-- either some check refuses, or none
pub by_check : (check : Option Refusal) (P : Option Refusal → Type 0) → (check ≡ None → P None) → ((why : Refusal) → check ≡ Some why → P (Some why)) → P check
by_check None P none some = none refl
by_check (Some why) P none some = some why refl

-- the answer after a list of checks is the one that the list gives
pub judged_right : {T : Type 0} (f : T → Outcome) (x : T) (check : Option Refusal) (P : Answer → Type 0) → (check ≡ None → P (Ok (f x))) → Judged check (P (spoken f (judged check x))) (spoken f (judged check x))
judged_right f x None P h = h refl
judged_right f x (Some why) P h = refl
