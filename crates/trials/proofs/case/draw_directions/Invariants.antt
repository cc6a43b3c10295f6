use Rattle.std.proofs.Common.{◌≡◌, ◌+◌, vec_len}
use Rattle.trials.proofs.case.draw_directions.Given as goal

abbrev pub invariant-loop : goal.invariant-loop
invariant-loop l = vec_len l.directions ≡ l.counter + 8
