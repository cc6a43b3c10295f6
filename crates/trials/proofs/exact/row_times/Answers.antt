use Rattle.std.proofs.Common.{ℕ, List, ℤ, refl, ap, ◌∙◌, w64, SFits, rules}
use mir.Syntax.{w128}
use Rattle.arith.specs.Sums.{part, entry}
use Rattle.arith.specs.Products.{dot, row_times}
use Rattle.arith.proofs.Bridge.{four-listed, dot-listed}
use Rattle.arith.proofs.Sums.{written-more, written_all}
use Rattle.trials.proofs.Wide.{wide_is}
use Rattle.trials.proofs.exact.row_times.Goals as goal

pub loop-j-preserved : goal.loop-j-preserved
loop-j-preserved g c =
    let l = part c.args.l in
    let j = c.loop-j.j in
    let cell = λ (i : ℕ). entry c.args.a i j in
    let f0 : SFits w64 (cell 0) = search rules in
    let f1 : SFits w64 (cell 1) = search rules in
    let f2 : SFits w64 (cell 2) = search rules in
    let f3 : SFits w64 (cell 3) = search rules in
    let z : SFits w128 c.in_ok-products.field-0 = search rules in
    written-more g.row.N j (row_times l (entry c.args.a)) c.loop-j.products c.loop-j-test.true c.loop-j.invariant
    (wide_is _ z ∙ c.in_ok-products.ensures ∙ ap (λ (xs : List ℤ). dot l (part xs)) (four-listed cell f0 f1 f2 f3 refl refl refl refl) ∙ dot-listed l cell)

pub returns : goal.returns
returns g c = written_all g.row.N c.loop-j.j (row_times (part c.args.l) (entry c.args.a)) c.loop-j.products c.loop-j-test.false c.loop-j.invariant
