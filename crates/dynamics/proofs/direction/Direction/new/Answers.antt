use Rattle.std.proofs.Common.{rules}
use Rattle.dynamics.proofs.Checks.{direction_exact}
use Rattle.dynamics.proofs.direction.Direction.new.Goals as goal

pub invariant_of-result : goal.invariant_of-result
invariant_of-result c = record { limited = (direction_exact c.args.entries).0 (search rules) }
