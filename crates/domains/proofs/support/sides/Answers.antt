use Rattle.std.proofs.Common.{ℕ, ◌+◌, ◌*◌, pos, rules}
use Rattle.arith.specs.Sums.{part}
use Rattle.arith.proofs.FromFn.{from_fn_listed}
use Rattle.domains.specs.Box.{side}
use Rattle.domains.proofs.support.sides.Goals as goal

pub returns : goal.returns
returns c =
    let l = part c.args.direction in
    let u = part c.args.u in
    from_fn_listed (λ (i : ℕ). side (l i) (u (2 * i)) (u (2 * i + 1))) 4 _ c.from_fn.result (pos 0) (λ i y q l h. (search rules, search rules)) c.from_fn.ensures.items
