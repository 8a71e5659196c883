use Rattle.queues.specs.Dues.{First}
use Rattle.std.proofs.Common.{true, false, refl, subst}
use Rattle.windows.proofs.Joined.{first_one, taken_first, taken_first_apart, taken_second, taken_second_apart, within_taken}
use Rattle.windows.proofs.Overs.{led, same_window}
use Rattle.windows.proofs.window.methods.WindowQueue.take.Goals as goal
use Rattle.windows.specs.Marked.{near}
use Rattle.windows.specs.Windows.{over}

pub invariant_of-self : goal.invariant_of-self
invariant_of-self g c =
    let w = c.args.self.now in
    let t = c.take in
    record {
      within = within_taken (near w.marks) (near t.new.self) t.result w.within t.ensures.after;
      sane = t.ensures.keeps;
      apart = taken_first_apart (near w.marks) (g.Q.Queue.due w.below) (near t.new.self) t.result w.apart t.ensures.after;
    }

pub invariant_of-self-else-marks_lead : goal.invariant_of-self-else-marks_lead
invariant_of-self-else-marks_lead g c =
    let w = c.args.self.now in
    let t = c.take-else-marks_lead in
    record { within = w.within; sane = w.sane; apart = taken_second_apart (near w.marks) (g.Q.Queue.due w.below) (g.Q.Queue.due t.new.self) t.result w.apart t.ensures.after }

pub returns-then-marks_lead-clause-answer : goal.returns-then-marks_lead-clause-answer
returns-then-marks_lead-clause-answer g c =
    let w = c.args.self.now in
    subst (First (over w)) (first_one (near w.marks) c.least-near.result c.take.result c.least-near.ensures.answer c.take.ensures.answer)
    (led w c.least-near.result c.least-next.result true c.if-marks_lead.ensures.answer c.least-near.ensures.answer c.least-next.ensures.answer)

pub returns-then-marks_lead-clause-after : goal.returns-then-marks_lead-clause-after
returns-then-marks_lead-clause-after g c =
    let w = c.args.self.now in
    let t = c.take in
    taken_first (near w.marks) (g.Q.Queue.due w.below) (near t.new.self) t.result t.ensures.answer w.apart t.ensures.after

pub returns-else-marks_lead-clause-answer : goal.returns-else-marks_lead-clause-answer
returns-else-marks_lead-clause-answer g c =
    let w = c.args.self.now in
    let t = c.take-else-marks_lead in
    subst (First (over w)) (first_one (g.Q.Queue.due w.below) c.least-next.result t.result c.least-next.ensures.answer t.ensures.answer)
    (led w c.least-near.result c.least-next.result false c.if-marks_lead.ensures.answer c.least-near.ensures.answer c.least-next.ensures.answer)

pub returns-else-marks_lead-clause-after : goal.returns-else-marks_lead-clause-after
returns-else-marks_lead-clause-after g c =
    let w = c.args.self.now in
    let t = c.take-else-marks_lead in
    taken_second (near w.marks) (g.Q.Queue.due w.below) (g.Q.Queue.due t.new.self) t.result t.ensures.answer w.apart t.ensures.after

pub returns-else-marks_lead-clause-stays : goal.returns-else-marks_lead-clause-stays
returns-else-marks_lead-clause-stays g c = λ u. same_window _ c.args.self.now refl (c.take-else-marks_lead.ensures.stays u)
