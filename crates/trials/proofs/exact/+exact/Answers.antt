use Rattle.std.proofs.Common.{ℕ, ◌<◌, ◌+ℤ◌, ◌*ℤ◌, sym, ap, ◌∙◌, ap₂, arith, SFits, rules}
use mir.Syntax.{w128}
use Rattle.arith.specs.Sums.{part}
use Rattle.dynamics.specs.Support.{exact}
use Rattle.trials.proofs.SupportNumbers.{start_is, carried_is, exact_step}
use Rattle.trials.proofs.Wide.{wide_is, is_as, checked_as}
use Rattle.trials.proofs.exact.+exact.Goals as goal

pub returns-then-k-eq0 : goal.returns-then-k-eq0
returns-then-k-eq0 t c =
    let m = c.args.model.now in
    let s = c.args.start.now in
    let l = part c.args.l in
    is_as c.reach.result _ _ c.reach.ensures (start_is s l c.centres.ensures c.radii.ensures ∙ ap (λ (k : ℕ). exact m s k l) (sym c.if-k-eq0.true))

pub returns : goal.returns
returns t c =
    let m = c.args.model.now in
    let l = part c.args.l in
    let some : 0 < c.args.k = omega arith in
    let f : SFits w128 c.in_ok-rest.rest = search rules in
    let g : SFits w128 c.in_ok-checked_mul.field-0 = search rules in
    let u : SFits w128 c.in_ok-scale.field-0 = search rules in
    let p : SFits w128 c.in_ok-gust_reach.field-0 = search rules in
    checked_as c.checked_add.result _ _ _ c.checked_add.ensures
    (ap₂ ◌+ℤ◌ (wide_is _ f) (wide_is _ g ∙ c.in_ok-checked_mul.ensures.1 ∙ ap₂ ◌*ℤ◌ (wide_is _ u) (wide_is _ p))
    ∙ exact_step m c.args.start.now c.args.k l some (carried_is m l c.in_ok-row_times.ensures c.matrix.ensures) c.in_ok-rest.ensures c.in_ok-scale.ensures c.in_ok-gust_reach.ensures)
