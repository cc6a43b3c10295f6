use Rattle.std.proofs.Common.{◌≡◌}
use Rattle.trials.specs.Counts.{looked}
use Rattle.trials.proofs.check.check_findings.Given as goal

abbrev pub invariant-loop-n : goal.invariant-loop-n
invariant-loop-n g l = looked l.tally ≡ 0
