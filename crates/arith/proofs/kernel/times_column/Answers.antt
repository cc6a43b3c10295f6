use Rattle.std.proofs.Common.{ℕ, ◌∙◌, w64, SFits, rules}
use Rattle.std.specs.Int.{int_wrap}
use Rattle.arith.specs.Sums.{part, entry}
use Rattle.arith.specs.Products.{times_column}
use Rattle.arith.proofs.Bridge.{four-listed}
use Rattle.arith.proofs.Wraps.{exact-listed}
use Rattle.arith.proofs.kernel.times_column.Goals as goal

pub returns : goal.returns
returns g c =
    let f = times_column g.row.N (entry c.args.m) (part c.args.x) in
    let f0 : SFits w64 c.product.result = search rules in
    let f1 : SFits w64 c.product-2.result = search rules in
    let f2 : SFits w64 c.product-3.result = search rules in
    let f3 : SFits w64 c.product-4.result = search rules in
    let e = four-listed (λ (k : ℕ). int_wrap w64 (f k)) f0 f1 f2 f3
    c.product.ensures.value c.product-2.ensures.value c.product-3.ensures.value c.product-4.ensures.value in
    record { value = e; exact = λ h. e ∙ exact-listed 4 f h }
