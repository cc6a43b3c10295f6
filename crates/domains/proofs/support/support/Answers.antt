use Rattle.std.proofs.Common.{◌≡◌, ◌+◌, ◌*◌, ◌^◌, List, ℤ, pos, ◌*ℤ◌, nat_abs, sym, ap, ◌∙◌, subst, ap₂, arith, lit<, w64, SFits}
use Rattle.arith.specs.Sums.{part, listed}
use Rattle.arith.specs.Products.{dot}
use Rattle.arith.proofs.Bits.{back, back_is, fits_abs}
use Rattle.arith.proofs.Sums.{sum_ext, listed_at}
use Rattle.domains.specs.Box.{side, support}
use Rattle.domains.specs.BoxLaws.{support-size}
use Rattle.domains.proofs.support.support.Goals as goal

-- the product of sizes and sides is the support
gathered : (l u ss ts : List ℤ) → ss ≡ listed 4 (λ i. pos (nat_abs (part l i))) → ts ≡ listed 4 (λ i. side (part l i) (part u (2 * i)) (part u (2 * i + 1)))
    → dot (part ss) (part ts) ≡ support (part l) u
gathered l u ss ts p q =
    sum_ext 4 (λ i. part ss i *ℤ part ts i) (λ i. pos (nat_abs (part l i)) *ℤ side (part l i) (part u (2 * i)) (part u (2 * i + 1)))
    (λ i h. ap₂ ◌*ℤ◌
    (ap (λ (xs : List ℤ). part xs i) p ∙ listed_at 4 (λ i. pos (nat_abs (part l i))) (pos 0) i h)
    (ap (λ (xs : List ℤ). part xs i) q ∙ listed_at 4 (λ i. side (part l i) (part u (2 * i)) (part u (2 * i + 1))) (pos 0) i h))

pub returns : goal.returns
returns c =
    let l = c.args.direction in
    let u = c.args.limits.upper in
    let e = gathered l u c.sizes.result c.sides.result (c.sizes.ensures.exact (λ i h. omega (arith, c.requires i h))) c.sides.ensures in
    let f : SFits w64 (support (part l) u) = fits_abs (support (part l) u) (4 * (2 ^ 22 * 2 ^ 30)) (support-size (part l) u (2 ^ 22) c.requires c.args.limits.small) (lit< tt) in
    ap back (c.product.ensures.exact (subst (SFits w64) (sym e) f) ∙ e) ∙ back_is (support (part l) u) f
