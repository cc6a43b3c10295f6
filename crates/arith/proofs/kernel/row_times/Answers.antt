use Rattle.std.proofs.Common.{ℕ, ◌∙◌, w64, SFits, rules}
use Rattle.std.specs.Int.{int_wrap}
use Rattle.arith.specs.Sums.{part, entry}
use Rattle.arith.specs.Products.{row_times}
use Rattle.arith.proofs.Bits.{back_is}
use Rattle.arith.proofs.Dots.{dot-through}
use Rattle.arith.proofs.Sums.{written-more, written_all}
use Rattle.arith.proofs.Wraps.{exact-listed, along-column}
use Rattle.arith.proofs.kernel.row_times.Goals as goal

pub loop-j-preserved : goal.loop-j-preserved
loop-j-preserved g c =
    let f = row_times (part c.args.l) (entry c.args.m) in
    let fits : SFits w64 c.product.result = search rules in
    let value = along-column (part c.args.l) c.args.m c.loop-j.j c.product.ensures.value c.column.ensures in
    written-more g.row.N c.loop-j.j (λ (k : ℕ). int_wrap w64 (f k)) c.loop-j.row c.loop-j-test.true c.loop-j.invariant (back_is c.product.result fits ∙ value)

pub returns : goal.returns
returns g c =
    let f = row_times (part c.args.l) (entry c.args.m) in
    let e = written_all g.row.N c.loop-j.j (λ (k : ℕ). int_wrap w64 (f k)) c.loop-j.row c.loop-j-test.false c.loop-j.invariant in
    record { value = e; exact = λ h. e ∙ exact-listed g.row.N f h; through = dot-through g.row.N (part c.args.l) (entry c.args.m) }
