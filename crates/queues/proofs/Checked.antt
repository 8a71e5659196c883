-- What it means that an entry passes the checks.
use Rattle.std.proofs.Common.{◌≡◌, ℕ, ◌≤◌, Bool, ltb, is_some, None, sym, refl, ap, ◌∙◌, arith}
use Rattle.limits.proofs.Passed.{none_or, none_refuse, or_none, refuse_none}
use Rattle.limits.specs.Checks.{refuse, server_check}
use Rattle.limits.specs.Ranges.{horizon, servers}
use Rattle.limits.specs.declared.refusal.Refusal.TheVariants.{EntryAlreadyQueued, InstantPastHorizon}
use Rattle.queues.proofs.Known.{not_some}
use Rattle.queues.specs.Checks.{entry_check, put_check}
use Rattle.queues.specs.Dues.{Due}
use Rattle.std.proofs.lemmas.Bool.{le-ltb, ltb-false}
use Rattle.std.proofs.lemmas.Bool.Decides.{nat_tests}

server_none : (s : ℕ) → server_check s ≡ None → (1 ≤ s) × (s ≤ servers)
server_none s e = (grind (arith, nat_tests), grind (arith, nat_tests))

none_server : (s : ℕ) → 1 ≤ s → s ≤ servers → server_check s ≡ None
none_server s lo hi = grind (arith, nat_tests)

-- the checks of a put, where what they say of holding is what a queue's call says
pub put_clear : (f : Due) (s t : ℕ) (queued : Bool) → queued ≡ is_some (f s) → None ≡ entry_check s t queued → put_check f s t ≡ None
put_clear f s t queued is none = ap (entry_check s t) (sym is) ∙ sym none

-- an entry that passes
pub passed : (f : Due) (s t : ℕ) → put_check f s t ≡ None → (1 ≤ s) × (s ≤ servers) × (t ≤ horizon) × (f s ≡ None)
passed f s t e =
    let early = refuse (is_some (f s)) EntryAlreadyQueued None in
    let all = or_none (server_check s) (refuse (ltb horizon t) InstantPastHorizon early) e in
    let rest = refuse_none (ltb horizon t) InstantPastHorizon early all.1 in
    let last = refuse_none (is_some (f s)) EntryAlreadyQueued None rest.1 in
    let server = server_none s all.0 in
    (server.0, server.1, ltb-false horizon t rest.0, not_some (f s) last.0)

-- and one that must pass
pub passes : (f : Due) (s t : ℕ) → 1 ≤ s → s ≤ servers → t ≤ horizon → f s ≡ None → put_check f s t ≡ None
passes f s t lo hi fit gone =
    let early = refuse (is_some (f s)) EntryAlreadyQueued None in
    none_or (server_check s) (refuse (ltb horizon t) InstantPastHorizon early) (none_server s lo hi)
    (none_refuse (ltb horizon t) InstantPastHorizon early (le-ltb horizon t fit)
    (none_refuse (is_some (f s)) EntryAlreadyQueued None (ap is_some gone) refl))
