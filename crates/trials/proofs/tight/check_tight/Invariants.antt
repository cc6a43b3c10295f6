use Rattle.std.proofs.Common.{◌≡◌, ◌*◌}
use Rattle.trials.specs.Counts.{total}
use Rattle.trials.proofs.tight.check_tight.Given as goal

abbrev pub invariant-loop-k : goal.invariant-loop-k
invariant-loop-k l = total l.marks ≡ 12 * l.k
