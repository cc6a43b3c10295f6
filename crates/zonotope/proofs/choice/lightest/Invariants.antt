use Rattle.std.proofs.Common.{◌≡◌}
use Rattle.zonotope.specs.Choice.{FirstLeast, weights}
use Rattle.zonotope.proofs.choice.lightest.Given as goal

abbrev pub invariant-loop-i : goal.invariant-loop-i
invariant-loop-i l = FirstLeast l.i (weights l.generators) l.best × (l.least ≡ weights l.generators l.best)
