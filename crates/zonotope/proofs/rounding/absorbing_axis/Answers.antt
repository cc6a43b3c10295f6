use Rattle.std.proofs.Common.{◌≡◌, ◌+◌, ◌/◌, ◌^◌, ◌≤◌, ℤ, pos, ◌+ℤ◌, nat_abs, ◌≤ℤ◌, ap, arith, rules}
use borrow.Author.Differences.{ints}
use Rattle.arith.specs.Rounding.{floored}
use Rattle.arith.specs.Sums.{part, listed}
use Rattle.arith.proofs.Bits.{back}
use Rattle.zonotope.specs.Shape.{size}
use Rattle.zonotope.proofs.Counts.{listed_counts}
use Rattle.arith.proofs.FromFn.{from_fn_listed}
use Rattle.zonotope.proofs.rounding.absorbing_axis.Goals as goal
use Rattle.zonotope.proofs.rounding.absorbing_axis.Goals.{After-from_fn}

lifted : (z : ℤ) → pos 0 ≤ℤ z → nat_abs z ≤ 2 ^ 30 → back (back z +ℤ pos 4095) ≡ pos (nat_abs z + 4095)
lifted z h k = omega (arith, ints)

axis_is : (c : After-from_fn) → c.from_fn.result ≡ listed 4 (λ i. pos ((size c.args.remainder i + 4095) / 4096))
axis_is c =
    let r = c.args.remainder in
    from_fn_listed (λ i. pos ((size r i + 4095) / 4096)) 4 _ _ (pos 0)
    (λ i y q l h. let e = ap floored (lifted (part r i) (c.requires i l).0 (c.requires i l).1) in search rules) c.from_fn.ensures.items

pub invariant_of-result : goal.invariant_of-result
invariant_of-result c =
    let r = c.args.remainder in
    record { limited = listed_counts (λ i. (size r i + 4095) / 4096) c.from_fn.result (2 ^ 30) (axis_is c) (λ i l. omega (arith, (c.requires i l).1)) }

pub returns : goal.returns
returns c = axis_is (goal.at.returns c).After-from_fn
