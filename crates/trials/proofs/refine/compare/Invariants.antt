use Rattle.std.proofs.Common.{◌≡◌, ◌*◌}
use Rattle.trials.specs.Counts.{total}
use Rattle.trials.proofs.refine.compare.Given as goal

abbrev pub invariant-loop-direction : goal.invariant-loop-direction
invariant-loop-direction g l = total l.marks ≡ 2 * l.direction-index
