use Rattle.std.proofs.Common.{◌≡◌}
use Rattle.tube.specs.Judging.{judged}
use Rattle.tube.proofs.judging.judge.Given as goal

abbrev pub invariant-loop-n : goal.invariant-loop-n
invariant-loop-n g l =
    (l.table.count ≡ l.initial.table.count)
    × (l.table.rows ≡ judged (λ d. g.D.Domain.sense.bounded d (g.D.Domain.form l.domain)) l.step l.n l.initial.table.rows)
