-- What is true of windows: their first entry, those that hold the same, and the entries that they let in.
use Rattle.bits.specs.Servers.{IsServer}
use Rattle.limits.specs.Ranges.{horizon}
use Rattle.std.proofs.Common.{◌≡◌, ℕ, ◌≤◌, Bool, cond, is_some, None, Option}
use Rattle.queues.proofs.Checked.{passed, passes, put_clear}
use Rattle.queues.specs.Checks.{entry_check, put_check}
use Rattle.queues.specs.Dues.{First, Within}
use Rattle.queues.specs.declared.entry.Entry.{Entry}
use Rattle.queues.specs.declared.queue.Queue.{Ghosts}
use Rattle.std.proofs.Props.{props}
use Rattle.windows.proofs.Joined.{leads, neither}
use Rattle.windows.specs.Both.{Apart, marks_lead_of}
use Rattle.windows.specs.Marked.{Sane, near}
use Rattle.windows.specs.Windows.{over}
use Rattle.windows.specs.declared.window.Window.{Window}
use mathlib.Core.HLevel.{is_prop→PathP}

module _ {X : Type 0} {q : Ghosts X} where
  pub same_window : (v w : Window X q) → v.marks ≡ w.marks → v.below ≡ w.below → v ≡ w
  same_window v w m b = λ i. record {
    marks = m i;
    below = b i;
    within = is_prop→PathP (λ j. Within (near (m j))) (λ j. hlevel props) v.within w.within i;
    sane = is_prop→PathP (λ j. Sane (m j)) (λ j. hlevel props) v.sane w.sane i;
    apart = is_prop→PathP (λ j. Apart (near (m j)) (q.due (b j))) (λ j. hlevel props) v.apart w.apart i;
  }

  -- the first entry, by which of the two leads
  pub led : (w : Window X q) (a b : Option Entry) (r : Bool) → r ≡ marks_lead_of a b → First (near w.marks) a → First (q.due w.below) b → First (over w) (cond r a b)
  led w a b r is x y = leads (near w.marks) (q.due w.below) a b r is w.within (q.within w.below) w.apart x y

  -- an entry of the server s at the instant t that passes the checks
  pub record Clear (w : Window X q) (s t : ℕ) : Type 0 where
    pub server : IsServer s
    pub early : t ≤ horizon
    pub checked : put_check (over w) s t ≡ None
    pub below_checked : put_check (q.due w.below) s t ≡ None
    pub unmarked : near w.marks s ≡ None
    pub absent : q.due w.below s ≡ None

  pub clear : (w : Window X q) (s t : ℕ) (queued : Bool) → queued ≡ is_some (over w s) → None ≡ entry_check s t queued → Clear w s t
  clear w s t queued is none =
      let checked = put_clear (over w) s t queued is none in
      let ok = passed (over w) s t checked in
      let out = neither (near w.marks s) (q.due w.below s) ok.3 in
      record { server = (ok.0, ok.1); early = ok.2; checked = checked; below_checked = passes (q.due w.below) s t ok.0 ok.1 ok.2 out.1; unmarked = out.0; absent = out.1 }
