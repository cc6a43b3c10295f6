use Rattle.std.proofs.Common.{◌≡◌, ◌+◌}
use Rattle.trials.proofs.check.watch_all.Given as goal

abbrev pub invariant-loop-keep_out : goal.invariant-loop-keep_out
invariant-loop-keep_out g l = l.tube.table.count ≡ l.initial.tube.table.count + l.keep_out-index
