use Rattle.std.proofs.Common.{◌≡◌, ◌*◌}
use Rattle.trials.specs.Counts.{total}
use Rattle.trials.proofs.numbers.check_start_sums.Given as goal

abbrev pub invariant-loop-part : goal.invariant-loop-part
invariant-loop-part l = total l.marks ≡ 2 * l.part
