use Rattle.arith.specs.Sums.{part, entry}
use Rattle.arith.specs.Products.{row_times}
use Rattle.arith.proofs.Sums.{Written}
use Rattle.trials.proofs.exact.row_times.Given as goal

-- the products so far
abbrev pub invariant-loop-j : goal.invariant-loop-j
invariant-loop-j g l = Written g.row.N l.j (row_times (part l.l) (entry l.a)) l.products
