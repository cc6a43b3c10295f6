use Rattle.std.proofs.Common.{◌≡◌, ◌+◌, ◌^◌, ◌≤◌, ℤ, pos, ◌+ℤ◌, nat_abs, ◌≤ℤ◌, arith, rules}
use borrow.Author.Differences.{ints}
use Rattle.arith.specs.Sums.{part}
use Rattle.arith.proofs.Bits.{back}
use Rattle.zonotope.specs.Shape.{size}
use Rattle.arith.proofs.FromFn.{from_fn_listed}
use Rattle.zonotope.proofs.sizes.grown.Goals as goal

added : (a b : ℤ) → pos 0 ≤ℤ a → nat_abs a ≤ 2 ^ 61 → nat_abs b ≤ 2 ^ 61 → (t : ℤ) → t ≡ pos (nat_abs (back b)) → back (back a +ℤ back t) ≡ pos (nat_abs a + nat_abs b)
added a b h k l t e = omega (arith, ints)

pub returns : goal.returns
returns c =
    let a = c.args.counts in
    let b = c.args.vector in
    from_fn_listed (λ i. pos (size a i + size b i)) 4 _ _ (pos 0)
    (λ i y q l h. let p = c.requires.counts i l in search (rules, added (part a i) (part b i) p.0 p.1 (c.requires.entries i l))) c.from_fn.ensures.items
