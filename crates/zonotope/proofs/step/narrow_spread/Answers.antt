use Rattle.std.proofs.Common.{sym}
use Rattle.zonotope.proofs.Same.{narrow_at}
use Rattle.zonotope.proofs.step.narrow_spread.Goals as goal

pub invariant_of-result : goal.invariant_of-result
invariant_of-result c =
    let s = c.in_ok-parts.parts in
    record { limited = λ i h. ((c.args.folding.now.spread_roomy s c.in_ok-parts.was i h).0, narrow_at s (sym c.if-is_narrow.ensures) i h) }
