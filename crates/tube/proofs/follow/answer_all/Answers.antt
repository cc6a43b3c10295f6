use Rattle.std.proofs.Common.{ap, ◌∙◌}
use Rattle.dynamics.specs.declared.model.Model.{Model}
use Rattle.tube.specs.Calls.{called, reply}
use Rattle.tube.specs.Flights.{flight_of}
use Rattle.tube.proofs.Sequences.{fold_turn, scan_turn, fold_end, scan_end}
use Rattle.tube.proofs.follow.answer_all.Goals as goal

pub loop-call-preserved : goal.loop-call-preserved
loop-call-preserved g c =
    let d = g.D.Domain.sense in
    let m = c.args.tube.now.model in
    let i = c.loop-call.call-index in
    let k = c.call-item.result in
    let o = c.loop-call.invariant in
    let r = c.answer-reply.ensures in
    let f = r.flight ∙ ap (λ (n : Model). called d n (flight_of g.D.Domain.form c.loop-call.tube) k) o.model in
    record {
      flight = fold_turn (called d m) (reply d) c.args.calls.now i _ _ _ k c.loop-call-test.true c.call-item.is f o.flight;
      replies = scan_turn (called d m) (reply d) c.args.calls.now i _ _ k c.answer-reply.result _ _ _ c.loop-call-test.true c.call-item.is f r.reply
          c.in_ok-push.ensures.items o.replies;
      model = r.model ∙ o.model;
    }

pub returns : goal.returns
returns g c =
    let d = g.D.Domain.sense in
    let m = c.args.tube.now.model in
    record {
      flight = fold_end (called d m) (reply d) c.args.calls.now c.loop-call.call-index _ _ c.loop-call-test.false c.loop-call.invariant.flight;
      replies = scan_end (called d m) (reply d) c.args.calls.now c.loop-call.call-index _ _ _ c.loop-call-test.false c.loop-call.invariant.replies;
    }
