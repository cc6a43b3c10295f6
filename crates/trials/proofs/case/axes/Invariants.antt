use Rattle.std.proofs.Common.{◌≡◌, vec_len}
use Rattle.trials.proofs.case.axes.Given as goal

abbrev pub invariant-loop-axis : goal.invariant-loop-axis
invariant-loop-axis l = vec_len l.directions ≡ l.axis-index
