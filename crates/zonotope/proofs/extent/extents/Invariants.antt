use Rattle.std.proofs.Common.{◌≡◌, ◌+◌, take, pos}
use Rattle.arith.specs.Sums.{listed}
use Rattle.zonotope.specs.Shape.{size, sizes}
use Rattle.zonotope.proofs.extent.extents.Given as goal

abbrev pub invariant-loop-generator : goal.invariant-loop-generator
invariant-loop-generator l = l.sums ≡ listed 4 (λ i. pos (size l.folding.centre i + size l.folding.axis i + sizes (take l.generator-index l.generator-items) i))
