use Rattle.std.proofs.Common.{rules}
use Rattle.dynamics.proofs.Checks.{start_exact}
use Rattle.dynamics.proofs.start.Start.new.Goals as goal

pub invariant_of-result : goal.invariant_of-result
invariant_of-result c = record { limited = (start_exact c.args.centres c.args.radii).0 (search rules) }
