use Rattle.std.proofs.Common.{◌≡◌}
use Rattle.trials.specs.Counts.{total}
use Rattle.trials.proofs.reading.check_texts.Given as goal

abbrev pub invariant-loop-case : goal.invariant-loop-case
invariant-loop-case l = total l.marks ≡ l.case-index
