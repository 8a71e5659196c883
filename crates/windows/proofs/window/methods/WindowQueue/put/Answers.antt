use Rattle.std.proofs.Common.{◌≡◌, None, sym, ◌∙◌, arith}
use Rattle.queues.specs.Dues.{Put}
use Rattle.std.specs.Result.{result_err}
use Rattle.windows.proofs.Joined.{ok_none, put_first_apart, put_second_apart, within_put}
use Rattle.windows.proofs.Overs.{clear, same_window}
use Rattle.windows.proofs.window.methods.WindowQueue.put.Goals as goal
use Rattle.windows.specs.Marked.{near}

pub invariant_of-self : goal.invariant_of-self
invariant_of-self g c =
    let w = c.args.self.now in
    let s = c.args.server in
    let t = c.args.instant in
    let ok = clear w s t c.holds.result c.holds.ensures.answer c.in_ok-check_put.ensures.answer in
    let put = c.offer.ensures.after c.if-offer.true in
    record {
      within = within_put (near w.marks) (near c.offer.new.self) s t ok.server.0 ok.server.1 ok.early w.within put;
      sane = c.offer.ensures.keeps;
      apart = put_first_apart (near w.marks) (g.Q.Queue.due w.below) (near c.offer.new.self) s t w.apart ok.absent put;
    }

pub returns-then-offer-clause-place : goal.returns-then-offer-clause-place
returns-then-offer-clause-place g c =
    let put = c.offer.ensures.after c.if-offer.true in
    let how = c.if-offer.ensures.answer in
    λ _. record {
      begins = λ z. (how.0 z, put.0);
      inside = λ z lo hi. ((how.1 z).0, put.0);
      outside = λ z out. absurd (omega (arith, how.1 z, out (how.1 z).1));
    }

pub invariant_of-self-2 : goal.invariant_of-self-2
invariant_of-self-2 g c =
    let w = c.args.self.now in
    let s = c.args.server in
    let t = c.args.instant in
    let due = g.Q.Queue.due in
    let ok = clear w s t c.holds.result c.holds.ensures.answer c.in_ok-check_put.ensures.answer in
    let accepted : result_err c.put.result ≡ None = c.put.ensures.answer ∙ ok.below_checked in
    let put : Put (due w.below) (due c.put.new.self) s t = c.put.ensures.after (ok_none c.put.result accepted) in
    rw (c.offer.ensures.stays c.if-offer.false) (record { within = w.within; sane = w.sane; apart = put_second_apart (near w.marks) (due w.below) (due c.put.new.self) s t w.apart ok.unmarked put })

pub returns-clause-answer : goal.returns-clause-answer
returns-clause-answer g c =
    let ok = clear c.args.self.now c.args.server c.args.instant c.holds.result c.holds.ensures.answer c.in_ok-check_put.ensures.answer in
    c.put.ensures.answer ∙ ok.below_checked ∙ sym ok.checked

pub returns-clause-stays : goal.returns-clause-stays
returns-clause-stays g c = λ e. same_window _ c.args.self.now (c.offer.ensures.stays c.if-offer.false) (c.put.ensures.stays e)
