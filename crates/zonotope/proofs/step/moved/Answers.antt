use Rattle.std.proofs.Common.{ap, ◌∙◌}
use Rattle.zonotope.specs.Domain.{moved_shape}
use Rattle.zonotope.specs.Fold.{reduced}
use Rattle.zonotope.proofs.step.moved.Goals as goal

pub returns-clause-shape : goal.returns-clause-shape
unfolding moved_shape
returns-clause-shape c = c.reduce.ensures.shape ∙ ap reduced c.advanced-folding.ensures.shape
