-- What calls and their answers tell of the time, of admissions and of actions. No state of a board is named here.
use Rattle.std.specs.Prelude.{◌≡◌, ℕ, zero, suc, ◌+◌, Bool, true, false, cond, ◌&&◌, ◌⊎◌, List, [], ◌∷◌, sum_by, Ok, Option, ◌==◌, is_ok, nat_le, nat_lt}
use Rattle.limits.specs.Ranges.{servers}
use Rattle.share.specs.Answers.{Answer, timed, told}
use Rattle.share.specs.declared.calls.Call.{Call}
use Rattle.share.specs.declared.calls.Call.TheVariants.{Admit, Leave, Start, Tick, Advance}
use Rattle.share.specs.declared.calls.Outcome.TheVariants.{Ticked}
use Rattle.slots.specs.Members.{has, is_server, nobody}
use Rattle.std.specs.List.{range_with_len}

-- calls with their answers, the newest outermost
pub data Trace : Type 0 where
  nothing : Trace
  said : Trace → Call → Answer → Trace

-- calls and their answers side by side, after p
abbrev pub heard : Trace → List Call → List Answer → Trace
heard p [] bs = p
heard p (c ∷ cs) [] = p
heard p (c ∷ cs) (a ∷ bs) = heard (said p c a) cs bs

-- p is a beginning of q
abbrev pub Begins : Trace → Trace → Type 0
Begins p nothing = p ≡ nothing
Begins p (said q c a) = (p ≡ said q c a) ⊎ Begins p q

-- after p, n ticks that serve v and give empty sets
abbrev pub quiet : Trace → Option ℕ → ℕ → Trace
quiet p v zero = p
quiet p v (suc n) = said (quiet p v n) Tick (Ok (Ticked (record { served = v; sets = nobody })))

-- An answer that took ticks is spelt out into single ones: all serve the answered server, and all give empty sets but the
-- last, which gives the answered sets. An answer that took none stays as it is.
abbrev pub spell : Trace → Call → Answer → ℕ → Trace
spell p c a zero = said p c a
spell p c a (suc n) = said (quiet p (told a).served n) Tick (Ok (Ticked (record { served = (told a).served; sets = (told a).sets })))

-- the trace in single ticks
abbrev pub spelt : Trace → Trace
spelt nothing = nothing
spelt (said p c a) = spell (spelt p) c a (told a).ticks

-- the tick serves the server s, begins its next stretch, ends its action
abbrev pub serves : ℕ → Answer → Bool
serves s a = is_server (told a).served s

abbrev pub releases : ℕ → Answer → Bool
releases s a = has (told a).sets.released s

abbrev pub finishes : ℕ → Answer → Bool
finishes s a = has (told a).sets.ended s

-- an accepted admission of the server s, leave of s, start of s
abbrev pub admits : ℕ → Call → Answer → Bool
admits s (Admit t c) a = is_ok a && t == s
admits s (Leave t) a = false
admits s (Start t asked) a = false
admits s Tick a = false
admits s (Advance n) a = false

abbrev pub leaves : ℕ → Call → Answer → Bool
leaves s (Admit t c) a = false
leaves s (Leave t) a = is_ok a && t == s
leaves s (Start t asked) a = false
leaves s Tick a = false
leaves s (Advance n) a = false

abbrev pub starts : ℕ → Call → Answer → Bool
starts s (Admit t c) a = false
starts s (Leave t) a = false
starts s (Start t asked) a = is_ok a && t == s
starts s Tick a = false
starts s (Advance n) a = false

-- the cap that a call asks for
abbrev pub cap_in : Call → ℕ
cap_in (Admit t c) = c
cap_in (Leave t) = 0
cap_in (Start t asked) = 0
cap_in Tick = 0
cap_in (Advance n) = 0

-- the clock: the ticks so far
abbrev pub clock_of : Trace → ℕ
clock_of nothing = 0
clock_of (said p c a) = clock_of p + (told a).ticks

-- the server s was admitted, and has not left since
abbrev pub admitted : Trace → ℕ → Bool
admitted nothing s = false
admitted (said p c a) s = cond (admits s c a) true (cond (leaves s c a) false (admitted p s))

-- the cap of that admission, or 0
abbrev pub cap_held : Trace → ℕ → ℕ
cap_held nothing s = 0
cap_held (said p c a) s = cond (admits s c a) (cap_in c) (cond (leaves s c a) 0 (cap_held p s))

-- the caps of the servers admitted, added up
unfoldable pub caps_held : Trace → ℕ
caps_held p = sum_by (cap_held p) (range_with_len 1 servers)

-- the server s has started an action, and no tick has ended it since
abbrev pub at_work : Trace → ℕ → Bool
at_work nothing s = false
at_work (said p c a) s = cond (starts s c a) true (cond (timed a && finishes s a) false (at_work p s))

-- how many of the ticks that begin at the instant x or later, and before y, have P
abbrev pub count : (Answer → Bool) → Trace → ℕ → ℕ → ℕ
count P nothing x y = 0
count P (said p c a) x y = cond (timed a && (P a && (nat_le x (clock_of p) && nat_lt (clock_of p) y))) (count P p x y + 1) (count P p x y)

abbrev pub served_in : Trace → ℕ → ℕ → ℕ → ℕ
served_in p s x y = count (serves s) p x y

abbrev pub ends_in : Trace → ℕ → ℕ → ℕ → ℕ
ends_in p s x y = count (finishes s) p x y
