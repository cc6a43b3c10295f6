use Rattle.zonotope.specs.Shape.{size}
use Rattle.zonotope.specs.Choice.{FirstGreatest}
use Rattle.zonotope.proofs.choice.longest.Given as goal

abbrev pub invariant-loop-i : goal.invariant-loop-i
invariant-loop-i l = FirstGreatest l.i (size l.generator) l.best
