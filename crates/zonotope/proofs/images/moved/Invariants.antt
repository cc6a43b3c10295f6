use Rattle.std.proofs.Common.{◌≡◌, map, take}
use Rattle.dynamics.specs.Values.{loop}
use Rattle.zonotope.specs.Advance
use Rattle.zonotope.specs.Forms.{standing}
use Rattle.zonotope.proofs.images.moved.Given as goal

abbrev pub invariant-loop-generator : goal.invariant-loop-generator
invariant-loop-generator l = (standing l.moved ≡ map (Advance.moved (loop l.model)) (take l.generator-index l.generator-items)) × (l.moved.len ≡ l.generator-index)
