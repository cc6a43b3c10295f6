-- The shape of a zonotope that is being folded.
use Rattle.zonotope.specs.declared.fold.Folding.{Folding}
use Rattle.zonotope.specs.Shape.{Shape}
use Rattle.zonotope.specs.Forms.{standing}

abbrev pub folding_shape : Folding → Shape
folding_shape f = record { centre = f.centre; axis = f.axis; generators = standing f.generators }
