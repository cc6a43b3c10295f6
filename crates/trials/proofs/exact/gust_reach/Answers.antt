use Rattle.std.proofs.Common.{ℕ, List, ℤ, ap, ◌∙◌, lit<, w64, SFits, rules}
use mir.Syntax.{w128}
use Rattle.arith.specs.Sums.{part}
use Rattle.arith.proofs.Bits.{back_is}
use Rattle.trials.proofs.SupportNumbers.{channel_is, pushed_is, gusts_are}
use Rattle.trials.proofs.Wide.{wide_is, checked_as}
use Rattle.trials.proofs.exact.gust_reach.Goals as goal

pub returns : goal.returns
returns c =
    let m = c.args.model.now in
    let l = part c.args.l in
    let g = part c.in_ok-first.field-0 in
    let p = part c.centres-centres.result in
    let w = part c.radii-radii.result in
    let g0 : SFits w128 (g 0) = search rules in
    let g1 : SFits w128 (g 1) = search rules in
    let p0 : SFits w64 (p 0) = search rules in
    let p1 : SFits w64 (p 1) = search rules in
    let w0 : SFits w64 (w 0) = search rules in
    let w1 : SFits w64 (w 1) = search rules in
    let f0 : SFits w128 c.in_ok-reached.reached = search rules in
    let f1 : SFits w128 c.in_ok-reach.field-0 = search rules in
    let push = pushed_is m l c.in_ok-first.ensures c.gains.ensures in
    let is = λ (j : ℕ). ap (λ (xs : List ℤ). part xs j) c.centres-centres.ensures in
    let wide = λ (j : ℕ). ap (λ (xs : List ℤ). part xs j) c.radii-radii.ensures in
    checked_as c.checked_add.result _ _ _ c.checked_add.ensures
    (gusts_are m l
    (wide_is _ f0 ∙ channel_is (wide_is _ g0 ∙ push 0 (lit< tt)) (back_is (p 0) p0 ∙ is 0) (back_is (w 0) w0 ∙ wide 0) (m.calm.0 0 (lit< tt)) c.in_ok-reached.ensures)
    (wide_is _ f1 ∙ channel_is (wide_is _ g1 ∙ push 1 (lit< tt)) (back_is (p 1) p1 ∙ is 1) (back_is (w 1) w1 ∙ wide 1) (m.calm.0 1 (lit< tt)) c.in_ok-reach.ensures))
