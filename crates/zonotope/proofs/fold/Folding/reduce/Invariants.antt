use Rattle.zonotope.proofs.Folds.{Folds}
use Rattle.zonotope.proofs.fold.Folding.reduce.Given as goal

abbrev pub invariant-loop-self : goal.invariant-loop-self
invariant-loop-self l = Folds l.initial.self l.self

abbrev pub decreases-loop-self : goal.decreases-loop-self
decreases-loop-self l = l.self.generators.len
