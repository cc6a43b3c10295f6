use Rattle.std.proofs.Common.{◌≡◌, ℕ, ◌<◌, ◌≤◌, length, ◌-ℤ◌, nat_abs}
use Rattle.arith.specs.Sums.{part}
use Rattle.trials.proofs.walk.draw_about.Given as goal

-- the parts so far are near their centres
abbrev pub invariant-loop-i : goal.invariant-loop-i
invariant-loop-i g l =
    (length l.parts ≡ length l.centres)
    × ((k : ℕ) → k < l.i → nat_abs (part l.parts k -ℤ part l.centres k) ≤ nat_abs (part l.radii k))
