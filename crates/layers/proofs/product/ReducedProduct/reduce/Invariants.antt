use Rattle.std.proofs.Common.{◌≡◌, drop}
use Rattle.domains.specs.AllAxes.{all_axes}
use Rattle.layers.specs.Product.{narrowed_by}
use Rattle.layers.proofs.product.ReducedProduct.reduce.Given as goal

-- what is left of the axes gives the result
abbrev pub invariant-loop-axis : goal.invariant-loop-axis
invariant-loop-axis g l =
    narrowed_by g.P.Domain.sense g.Q.Domain.sense (drop l.axis-index all_axes) (g.P.Domain.form l.self.left, g.Q.Domain.form l.self.right)
    ≡ narrowed_by g.P.Domain.sense g.Q.Domain.sense all_axes (g.P.Domain.form l.initial.self.left, g.Q.Domain.form l.initial.self.right)
