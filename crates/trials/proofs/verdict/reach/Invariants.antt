use Rattle.std.proofs.Common.{◌≡◌, ◌*◌, ◌^◌, ◌≤◌, length, ◌*ℤ◌, nat_abs}
use Rattle.arith.specs.Sums.{part, sum}
use Rattle.dynamics.specs.Values.{along}
use Rattle.trials.proofs.verdict.reach.Given as goal

-- the sum so far, and its size
abbrev pub invariant-loop-entry : goal.invariant-loop-entry
invariant-loop-entry l =
    (l.reach ≡ sum (length l.yielded) (λ i. along l.fn.direction i *ℤ part l.fn.x i))
    × (nat_abs l.reach ≤ length l.yielded * 2 ^ 83)
