use Rattle.std.proofs.Common.{◌≡◌, length, pos, nat_abs, ◌∙◌, arith, rules}
use Rattle.arith.specs.Sums.{part}
use Rattle.arith.proofs.Sums.{listed_is}
use Rattle.trials.proofs.exact.sizes.Goals as goal

pub returns : goal.returns
returns g c =
    let n : length c.args.l ≡ g.row.N = search rules in
    let i = c.loop-size.invariant in
    listed_is g.row.N (λ k. pos (nat_abs (part c.args.l k))) (pos 0) c.loop-size.size-items (i.0 ∙ n) (λ k h. i.1 k (omega arith))
