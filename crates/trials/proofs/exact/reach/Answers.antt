use Rattle.std.proofs.Common.{List, ℤ, pos, ◌+ℤ◌, ◌*ℤ◌, nat_abs, ap, ◌∙◌, ap₂, SFits, rules}
use mir.Syntax.{w128}
use Rattle.arith.specs.Sums.{part, sum}
use Rattle.trials.proofs.SupportNumbers.{sum-listed}
use Rattle.trials.proofs.Wide.{wide_is, checked_as}
use Rattle.trials.proofs.exact.reach.Goals as goal

pub returns : goal.returns
returns g c =
    let w = part c.args.radii in
    let f : SFits w128 c.in_ok-middle.middle = search rules in
    let h : SFits w128 c.in_ok-product.field-0 = search rules in
    checked_as c.checked_add.result _ _ _ c.checked_add.ensures
    (ap₂ ◌+ℤ◌ (wide_is _ f ∙ c.in_ok-middle.ensures)
    (wide_is _ h ∙ c.in_ok-product.ensures ∙ ap (λ (xs : List ℤ). sum g.row.N (λ i. part xs i *ℤ w i)) c.in_ok-sizes.ensures
    ∙ sum-listed g.row.N (λ i. pos (nat_abs (part c.args.l i))) w))
