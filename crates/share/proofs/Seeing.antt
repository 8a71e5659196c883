-- What a trace tells of one server, and what one more answer makes of it.
use Rattle.limits.specs.Tasks.{task}
use Rattle.std.proofs.Common.{◌≡◌, ℕ, ◌+◌, ◌≤◌, true, false, cond, eqb, sym, refl, ap, ◌∙◌, ⊎_elim, add-zero, arith, Ok, is_ok}
use Rattle.release.specs.Actions.{Action, action}
use Rattle.share.proofs.Counting.{count_idle, count_none, count_one, count_past}
use Rattle.share.proofs.Pace.{Seen, closed_by, served_by}
use Rattle.share.specs.Answers.{Answer, told}
use Rattle.share.specs.Traces.{Trace, admits, admitted, at_work, cap_held, clock_of, finishes, leaves, nothing, said, served_in, serves, starts}
use Rattle.share.specs.declared.calls.Call.{Call}
use Rattle.share.specs.declared.calls.Call.TheVariants.{Admit, Leave, Start, Tick, Advance}
use Rattle.share.specs.declared.calls.Outcome.TheVariants.{Started, Ticked}
use Rattle.slots.specs.declared.sets.Ticked.{Ticked as OneTick}
use Rattle.std.proofs.lemmas.Bool.{and_left, cases_Bool, cond_both, cond-false, cond-true, eq-eqb}

-- the action that a call at the instant t asks for
abbrev pub action_in : ℕ → Call → Action
action_in t (Admit s c) = action t 0 0 0
action_in t (Leave s) = action t 0 0 0
action_in t (Start s asked) = action t asked.load asked.limit asked.period
action_in t Tick = action t 0 0 0
action_in t (Advance n) = action t 0 0 0

-- the last action that the server s began
abbrev pub latest : Trace → ℕ → Action
latest nothing s = action 0 0 0 0
latest (said p c a) s = cond (starts s c a) (action_in (clock_of p) c) (latest p s)

pub arrived : (p : Trace) (s : ℕ) → (latest p s).arrival ≤ clock_of p
arrived nothing s = omega arith
arrived (said p c a) s =
    cond_both (starts s c a) (action_in (clock_of p) c) (latest p s) (λ k. k.arrival ≤ clock_of p + (told a).ticks)
    (λ _. omega (arith, at c))
    (λ _. omega (arith, arrived p s))
  where
    at : (c : Call) → (action_in (clock_of p) c).arrival ≡ clock_of p
    at (Admit s k) = refl
    at (Leave s) = refl
    at (Start s asked) = refl
    at Tick = refl
    at (Advance n) = refl

abbrev pub seen : Trace → ℕ → Seen
seen p s = record {
  there = admitted p s;
  cap = cap_held p s;
  busy = at_work p s;
  last = latest p s;
  given = served_in p s (latest p s).arrival (clock_of p);
  clock = clock_of p;
}

-- what is not accepted is no admission, leave or start
pub record Idle (s : ℕ) (c : Call) (a : Answer) : Type 0 where
  pub admit : admits s c a ≡ false
  pub leave : leaves s c a ≡ false
  pub start : starts s c a ≡ false

pub not_accepted : (s : ℕ) (c : Call) (a : Answer) → is_ok a ≡ false → Idle s c a
not_accepted s (Admit t c) a h = record { admit = and_left (is_ok a) (eqb t s) h; leave = refl; start = refl }
not_accepted s (Leave t) a h = record { admit = refl; leave = and_left (is_ok a) (eqb t s) h; start = refl }
not_accepted s (Start t asked) a h = record { admit = refl; leave = refl; start = and_left (is_ok a) (eqb t s) h }
not_accepted s Tick a h = record { admit = refl; leave = refl; start = refl }
not_accepted s (Advance n) a h = record { admit = refl; leave = refl; start = refl }

-- an answer that takes no time, and is none of these for s, tells nothing new of s
pub seen_same : (p : Trace) (c : Call) (a : Answer) (s : ℕ) → (told a).ticks ≡ 0 → Idle s c a → seen (said p c a) s ≡ seen p s
seen_same p c a s z i = simp (i.admit, i.leave, i.start, z, add-zero)

-- a start of s
pub seen_started : (p : Trace) (s load limit period end : ℕ) → seen (said p (Start s (task load limit period)) (Ok (Started end))) s ≡ record { there = admitted p s; cap = cap_held p s; busy = true; last = action (clock_of p) load limit period; given = 0; clock = clock_of p }
seen_started p s load limit period end = let none = count_none (serves s) p (clock_of p) (clock_of p) (omega arith) in simp (eq-eqb s s refl, add-zero, none)

-- a tick: it may serve s, and then may end its action
module _ (p : Trace) (s : ℕ) (t : OneTick) where
  abbrev q : Trace
  q = said p Tick (Ok (Ticked t))

  pub given_next : served_in q s (latest p s).arrival (clock_of p + 1) ≡ cond (serves s (Ok (Ticked t))) ((seen p s).given + 1) (seen p s).given
  given_next =
      let A = (latest p s).arrival in
      let past = count_past (serves s) p A (clock_of p + 1) (clock_of p) (omega arith) (omega arith) in
      ⊎_elim
      (λ (h : serves s (Ok (Ticked t)) ≡ true). count_one (serves s) p Tick (Ok (Ticked t)) A (clock_of p + 1) refl h (arrived p s) (omega arith) ∙ ap (λ n. n + 1) past ∙ sym (cond-true _ _ _ h))
      (λ (h : serves s (Ok (Ticked t)) ≡ false). count_idle (serves s) p Tick (Ok (Ticked t)) A (clock_of p + 1) h ∙ past ∙ sym (cond-false _ _ _ h))
      (cases_Bool (serves s (Ok (Ticked t))))

  pub seen_ticked : seen q s ≡ closed_by (finishes s (Ok (Ticked t))) (served_by (serves s (Ok (Ticked t))) (seen p s))
  seen_ticked = rw given_next
