use Rattle.std.proofs.Common.{◌^◌, pos, sym, ap, ◌∙◌, subst, arith, lit<, w64, SFits}
use Rattle.arith.specs.Products.{spanned}
use Rattle.arith.specs.Sums.{part}
use Rattle.arith.proofs.Bits.{back, back_is, fits_abs}
use Rattle.zonotope.specs.Shape.{size}
use Rattle.zonotope.specs.Spans.{span_dot, spanned-size}
use Rattle.zonotope.proofs.sizes.span.Goals as goal

pub returns : goal.returns
returns c =
    let l = c.args.vector in
    let r = c.args.radii in
    let s = r.parts in
    let e = span_dot l s c.sizes.result (c.sizes.ensures.exact (λ i h. omega (arith, c.requires i h))) (λ i h. (r.limited i h).0) in
    let f : SFits w64 (pos (spanned (part l) (size s))) = fits_abs (pos (spanned (part l) (size s))) (2 ^ 52) (spanned-size (part l) (size s) c.requires (λ i h. (r.limited i h).1)) (lit< tt) in
    ap back (c.product.ensures.exact (subst (SFits w64) (sym e) f) ∙ e) ∙ back_is (pos (spanned (part l) (size s))) f
