-- What an answer says: its values.
use Rattle.std.specs.Prelude.{ℕ, Bool, None, Ok, Err, Option, Result, nat_lt}
use Rattle.limits.specs.declared.refusal.Refusal.{Refusal}
use Rattle.share.specs.declared.calls.Outcome.{Outcome}
use Rattle.share.specs.declared.calls.Outcome.TheVariants.{Done, Started, Ticked, Advanced}
use Rattle.slots.specs.Members.{nobody}
use Rattle.slots.specs.declared.sets.Sets.{Sets}

abbrev pub Answer : Type 0
Answer = Result Outcome Refusal

pub record Told : Type 0 where
  -- the forecast end of an action
  pub end : ℕ
  -- how many ticks the call took, the server that all of them served, if there was one, and the sets of the last
  pub ticks : ℕ
  pub served : Option ℕ
  pub sets : Sets

-- an answer that has no end, or took no tick, says 0, no server and empty sets
abbrev pub told : Answer → Told
told (Ok Done) = record { end = 0; ticks = 0; served = None; sets = nobody }
told (Ok (Started end)) = record { end = end; ticks = 0; served = None; sets = nobody }
told (Ok (Ticked t)) = record { end = 0; ticks = 1; served = t.served; sets = t.sets }
told (Ok (Advanced t)) = record { end = 0; ticks = t.ticks; served = t.served; sets = t.sets }
told (Err why) = record { end = 0; ticks = 0; served = None; sets = nobody }

-- the call took time
abbrev pub timed : Answer → Bool
timed a = nat_lt 0 (told a).ticks
