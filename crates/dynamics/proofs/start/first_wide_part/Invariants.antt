use Rattle.std.proofs.Common.{◌≡◌, ◌-◌, ◌^◌}
use Rattle.arith.specs.Sums.{part}
use Rattle.dynamics.specs.Ranges.{too_large}
use Rattle.dynamics.specs.Refusals.{first_passing, wide_start}
use Rattle.dynamics.proofs.start.first_wide_part.Given as goal

-- what is left gives the result
abbrev pub invariant-loop-i : goal.invariant-loop-i
invariant-loop-i l = first_passing l.i (4 - l.i) (λ i. too_large (2 ^ 30) (part l.centres i) (part l.radii i)) ≡ wide_start l.centres l.radii
