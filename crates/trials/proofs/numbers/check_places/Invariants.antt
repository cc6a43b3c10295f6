use Rattle.std.proofs.Common.{◌≡◌}
use Rattle.trials.specs.Counts.{total}
use Rattle.trials.proofs.numbers.check_places.Given as goal

abbrev pub invariant-loop-index : goal.invariant-loop-index
invariant-loop-index g l = total l.marks ≡ l.index
