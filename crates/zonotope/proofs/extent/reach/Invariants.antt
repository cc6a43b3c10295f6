use Rattle.std.proofs.Common.{◌≡◌, take, pos}
use Rattle.dynamics.specs.Values.{along}
use Rattle.zonotope.specs.Shape.{reaches}
use Rattle.zonotope.proofs.extent.reach.Given as goal

abbrev pub invariant-loop-generator : goal.invariant-loop-generator
invariant-loop-generator l = l.sum ≡ pos (reaches (along l.direction) (take l.generator-index l.generator-items))
