use Rattle.std.proofs.Common.{◌≡◌, length, ◌*ℤ◌}
use Rattle.arith.specs.Sums.{part, sum}
use Rattle.trials.proofs.exact.product.Given as goal

abbrev pub invariant-loop-entry : goal.invariant-loop-entry
invariant-loop-entry g l = l.sum ≡ sum (length l.yielded) (λ i. part l.fn.l i *ℤ part l.fn.x i)
