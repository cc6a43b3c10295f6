use Rattle.std.proofs.Common.{◌≡◌, ◌*◌}
use Rattle.trials.specs.Counts.{looked, total}
use Rattle.trials.proofs.trial.try_kind.Given as goal

abbrev pub invariant-loop : goal.invariant-loop
invariant-loop l = (looked l.outcome.tally ≡ 1092 * l.counter) × (total l.outcome.tight ≡ 72 * l.counter) × (total l.outcome.refined ≡ 312 * l.counter)
