use Rattle.std.proofs.Common.{◌≡◌, ◌+◌, ◌++◌}
use Rattle.arith.specs.Sums.{entry}
use Rattle.zonotope.specs.Shape.{size}
use Rattle.zonotope.specs.Advance.{columns}
use Rattle.zonotope.specs.Forms.{standing}
use Rattle.zonotope.proofs.images.add_columns.Given as goal

abbrev pub invariant-loop-j : goal.invariant-loop-j
invariant-loop-j g l =
    (standing l.images ≡ standing l.initial.images ++ columns l.j (entry l.matrix) (size l.counts)) × (l.images.len ≡ l.initial.images.len + l.j)
