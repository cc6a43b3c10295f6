use Rattle.std.proofs.Common.{◌≡◌, ℕ, ◌<◌, ◌≤◌, length, pos, nat_abs}
use Rattle.arith.specs.Sums.{part}
use Rattle.trials.proofs.exact.sizes.Given as goal

-- the entries so far are sizes, and the others stand
abbrev pub invariant-loop-size : goal.invariant-loop-size
invariant-loop-size g l =
    (length l.size-items ≡ length l.fn.l)
    × ((k : ℕ) → k < l.size-index → part l.size-items k ≡ pos (nat_abs (part l.fn.l k)))
    × ((k : ℕ) → l.size-index ≤ k → part l.size-items k ≡ part l.fn.l k)
