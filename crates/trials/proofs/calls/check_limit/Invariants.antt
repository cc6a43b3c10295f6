use Rattle.std.proofs.Common.{◌≡◌}
use Rattle.trials.specs.Counts.{total}
use Rattle.trials.proofs.calls.check_limit.Given as goal

abbrev pub invariant-loop-n : goal.invariant-loop-n
invariant-loop-n g l = goal.F-IsAlwaysCallable g l.call × (total l.marks ≡ l.n)
