use Rattle.dynamics.specs.Limits.{DirectionLimits}
use Rattle.domains.specs.Axes.{unit_limits}
use Rattle.domains.proofs.axis.SignedAxis.direction.Goals as goal

pub unreachable-requires : goal.unreachable-requires
unreachable-requires c =
    let limited : DirectionLimits c.unit.result = rw c.unit.ensures (unit_limits c.args.self.index) in
    cc (c.in-Err.ensures.value, c.in-Err.ensures.limits.1 limited)
