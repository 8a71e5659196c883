-- What an advance and a tick may do.
use Rattle.std.proofs.Common.{◌≡◌, ℕ, ◌+◌, ◌-◌, ◌<◌, ◌≤◌, sym, ap, ◌∙◌, subst, arith}
use Rattle.limits.specs.Ranges.{horizon}
use Rattle.slots.specs.Advances.{Allowed, Largest, leapt, span, turns}
use Rattle.slots.specs.Slots.{Sound, late, serve}
use Rattle.slots.specs.Steps.{Model, NobodyLate, ServesAtWork}
use Rattle.slots.specs.declared.sets.Advanced.{Advanced}
use Rattle.slots.proofs.Closing.{none_late}
use Rattle.slots.proofs.Service.{serve_bound}
use Rattle.slots.proofs.Places.{mask_none, serves_at_work_lem}
use Rattle.slots.proofs.Spans.{largest, turns_sound}

-- what ticks from a sound board answer
module _ (m : Model) (s : Sound m.clock m.slots) (k : ℕ) (a : Advanced) (is : a ≡ leapt m k) where
  pub leapt_punctual : NobodyLate a.sets
  leapt_punctual =
      let z = turns (k - 1) m in
      ap (λ (x : Advanced). x.sets.late.word) is ∙ mask_none (late (z.clock + 1)) (serve z.slots) (none_late (z.clock + 1) (serve z.slots) (serve_bound z.clock z.slots (turns_sound (k - 1) m s)))

  pub leapt_works : ServesAtWork m a.served
  leapt_works = subst (ServesAtWork m) (sym (ap (λ (x : Advanced). x.served) is)) (serves_at_work_lem m)

module _ (m : Model) (n k : ℕ) (is : k ≡ span m n) (s : Sound m.clock m.slots) (low : 1 ≤ n) (early : m.clock < horizon) where
  pub advance_largest : Largest m n k
  advance_largest = subst (Largest m n) (sym is) (largest m n s low early)

  -- as many ticks as it makes are allowed at once
  pub advance_allowed : Allowed m k k
  advance_allowed = let a = advance_largest.allowed in record { some = a.some; within = omega arith; early = a.early; same = a.same; quiet = a.quiet }
