use Rattle.std.specs.Int.{int_wrap, w64}
use Rattle.arith.specs.Sums.{part, entry}
use Rattle.arith.specs.Products.{row_times}
use Rattle.arith.proofs.Sums.{Written}
use Rattle.arith.proofs.kernel.row_times.Given as goal

abbrev pub invariant-loop-j : goal.invariant-loop-j
invariant-loop-j g l = Written g.row.N l.j (λ j. int_wrap w64 (row_times (part l.l) (entry l.m) j)) l.row
