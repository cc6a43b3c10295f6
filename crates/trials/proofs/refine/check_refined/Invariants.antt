use Rattle.std.proofs.Common.{◌≡◌, ◌+◌, ◌*◌}
use Rattle.trials.specs.Counts.{total}
use Rattle.trials.proofs.refine.check_refined.Given as goal

abbrev pub invariant-loop : goal.invariant-loop
invariant-loop l = total l.marks ≡ 24 * l.counter + 24
