use Rattle.std.proofs.Common.{◌≡◌, ◌^◌, length, leb, ℤ, pos, nat_abs, ◌∙◌, rules}
use Rattle.arith.proofs.Sums.{list_all-every}
use Rattle.zonotope.proofs.extent.is_narrow.Goals as goal

pub returns : goal.returns
returns c =
    let a = c.args.counts in
    let long : length a ≡ 4 = search rules in
    c.is_within.ensures ∙ list_all-every (λ (z : ℤ). leb (nat_abs z) (2 ^ 30)) (pos 0) 4 a long
