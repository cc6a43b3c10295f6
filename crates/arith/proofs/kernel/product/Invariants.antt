use Rattle.std.proofs.Common.{◌≡◌, length, ◌*ℤ◌}
use Rattle.std.specs.Int.{int_wrap, w64}
use Rattle.arith.specs.Sums.{part, sum}
use Rattle.arith.proofs.kernel.product.Given as goal

abbrev pub invariant-loop-a : goal.invariant-loop-a
invariant-loop-a g l = l.sum ≡ int_wrap w64 (sum (length l.yielded) (λ i. part l.fn.l i *ℤ part l.fn.x i))
