use Rattle.std.specs.Prelude.{unsigned_abs}
use Rattle.std.specs.Int.{cast_signed, w64}
use Rattle.arith.specs.Sums.{part}
use Rattle.arith.proofs.Sums.{Written}
use Rattle.arith.proofs.size.sizes.Given as goal

abbrev pub invariant-loop-i : goal.invariant-loop-i
invariant-loop-i g l = Written g.row.N l.i (λ i. cast_signed w64 (unsigned_abs (part l.numbers i))) l.sizes
