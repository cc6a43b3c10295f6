use Rattle.std.proofs.Common.{arith}
use Rattle.dynamics.specs.declared.direction.Direction.{Direction}
use Rattle.trials.proofs.Directions.{count_more, seen_more, seen_all}
use Rattle.trials.proofs.check.check_step.Goals as goal

pub loop-direction-preserved : goal.loop-direction-preserved
loop-direction-preserved g c =
    let b = λ (d : Direction). g.D.Domain.sense.bounded d (g.D.Domain.form c.args.tube.now.domain) in
    let ls = c.args.directions.now in
    let ws = c.args.walks.now in
    let i = c.loop-direction.direction-index in
    let t = c.loop-direction.tally in
    let m = c.check_bound.result in
    let r = c.add_assign.new.self in
    let l = c.direction-item.result in (
      count_more l c.bound.result c.args.step ws i _ t m r c.add_assign.ensures.after.1 c.loop-direction.invariant.0 c.check_bound.ensures c.loop-direction-test.true c.requires,
      seen_more b c.args.step ws ls i t m r l c.bound.result c.loop-direction-test.true c.direction-item.is c.bound.ensures c.check_bound.ensures c.add_assign.ensures.after.0
          c.loop-direction.invariant.1,
    )

pub returns : goal.returns
returns g c =
    let b = λ (d : Direction). g.D.Domain.sense.bounded d (g.D.Domain.form c.args.tube.now.domain) in
    record {
      count = omega (arith, c.loop-direction.invariant.0);
      value = seen_all b c.args.step c.args.walks.now c.args.directions.now c.loop-direction.direction-index c.loop-direction.tally c.loop-direction-test.false c.loop-direction.invariant.1;
    }
