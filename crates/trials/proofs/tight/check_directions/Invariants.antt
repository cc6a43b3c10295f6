use Rattle.std.proofs.Common.{◌≡◌}
use Rattle.trials.specs.Counts.{total}
use Rattle.trials.proofs.tight.check_directions.Given as goal

abbrev pub invariant-loop-direction : goal.invariant-loop-direction
invariant-loop-direction l = total l.marks ≡ l.direction-index
