use Rattle.std.proofs.Common.{◌≡◌, map, take, pos}
use Rattle.arith.specs.Sums.{listed}
use Rattle.zonotope.specs.Advance.{rounded, residues}
use Rattle.zonotope.specs.Forms.{standing}
use Rattle.zonotope.proofs.rounding.round_all.Given as goal

abbrev pub invariant-loop-image : goal.invariant-loop-image
invariant-loop-image l =
    (standing l.rounded ≡ map rounded (take l.image-index l.image-items))
    × (l.rounded.len ≡ l.image-index)
    × (l.sums ≡ listed 4 (λ i. pos (residues (take l.image-index l.image-items) i)))
