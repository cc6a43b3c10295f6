use Rattle.std.proofs.Common.{◌≡◌, ◌*◌}
use Rattle.trials.specs.Counts.{looked}
use Rattle.trials.proofs.check.check_domain.Given as goal

abbrev pub invariant-loop-step : goal.invariant-loop-step
invariant-loop-step g l = looked l.tally ≡ 12 * l.step
