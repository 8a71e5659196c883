-- Two meanings read as one, where no server has an entry in both.
use Rattle.std.specs.Prelude.{◌≡◌, ℕ, Bool, true, false, ◌⊎◌, Some, None, Option, refl}
use Rattle.queues.specs.Dues.{Due, Within}
use Rattle.queues.specs.Entries.{entry_order}
use Rattle.queues.specs.declared.entry.Entry.{Entry}
use Rattle.std.proofs.Common.{inl, inr}

-- the first that is there
abbrev pub either : Option ℕ → Option ℕ → Option ℕ
either None o = o
either (Some t) o = Some t

-- the two read as one
abbrev pub both : Due → Due → Due
both f g k = either (f k) (g k)

-- no server has an entry in both
abbrev pub Apart : Due → Due → Type 0
Apart f g = (k t : ℕ) → f k ≡ Some t → g k ≡ None

-- the first of the one is there, and not after the first of the other
abbrev pub marks_lead_of : Option Entry → Option Entry → Bool
marks_lead_of None next = false
marks_lead_of (Some e) None = true
marks_lead_of (Some e) (Some d) = entry_order e d

-- where what is read comes from
pub from : (a b : Option ℕ) (t : ℕ) → either a b ≡ Some t → (a ≡ Some t) ⊎ ((a ≡ None) × (b ≡ Some t))
from None b t e = inr (refl, e)
from (Some u) b t e = inl e

-- the two, each of servers and none past the horizon
pub both_within : (f g : Due) → Within f → Within g → Within (both f g)
both_within f g u v k t e = elim (from (f k) (g k) t e) [
  | inl p ↦ u k t p
  | inr p ↦ v k t p.1
]
