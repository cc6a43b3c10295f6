use Rattle.std.proofs.Common.{◌≡◌, ◌+◌, ◌*◌, [], ◌++◌, get_or, drop, None}
use Rattle.dynamics.specs.Ranges.{first_outside, matrix_rows, joined}
use Rattle.dynamics.proofs.ranges.first_outside_matrix.Given as goal

-- nothing was found yet, and what is left gives the result
abbrev pub invariant-rows : goal.invariant-rows
invariant-rows l = (l.found ≡ None) × (first_outside (4 * l.i) (joined (drop l.i (matrix_rows l.matrix))) ≡ first_outside 0 (joined (matrix_rows l.matrix)))

abbrev pub invariant-loop-j : goal.invariant-loop-j
invariant-loop-j l =
    (l.found ≡ None)
    × (first_outside (4 * l.i + l.j) (drop l.j (get_or (matrix_rows l.matrix) l.i []) ++ joined (drop (l.i + 1) (matrix_rows l.matrix)))
    ≡ first_outside 0 (joined (matrix_rows l.matrix)))
