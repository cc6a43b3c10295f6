use Rattle.std.proofs.Common.{◌≡◌, ◌^◌, ◌≤◌, ℤ, pos, ◌+ℤ◌, nat_abs, arith, rules}
use borrow.Author.Differences.{ints}
use Rattle.arith.specs.Sums.{part}
use Rattle.arith.proofs.Bits.{back}
use Rattle.arith.proofs.FromFn.{from_fn_listed}
use Rattle.zonotope.proofs.images.sum.Goals as goal

summed : (x y : ℤ) → nat_abs x ≤ 2 ^ 61 → nat_abs y ≤ 2 ^ 61 → back (back x +ℤ back y) ≡ x +ℤ y
summed x y h k = omega (arith, ints)

pub returns : goal.returns
returns c =
    let a = part c.args.a in
    let b = part c.args.b in
    from_fn_listed (λ i. a i +ℤ b i) 4 _ _ (pos 0) (λ i y q l h. let e = summed (a i) (b i) (c.requires.first i l) (c.requires.second i l) in search rules) c.from_fn.ensures.items
