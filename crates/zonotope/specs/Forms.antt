-- The forms of the code's values.
use Rattle.std.specs.Prelude.{List, take, ℤ, Some, None, Option}
use Rattle.fixed_vec.specs.declared.fixed_vec.FixedVec.{FixedVec}
use Rattle.zonotope.specs.declared.stored.Radii.{Radii}
use Rattle.zonotope.specs.declared.stored.Stored.{Stored}
use Rattle.zonotope.specs.Shape.{Shape}
use Rattle.zonotope.specs.Domain.{Form, kept_if, narrow}

abbrev pub Generators : Type 0
Generators = FixedVec (List ℤ) 22

-- the generators that stand: the first of the storage
abbrev pub standing : Generators → List (List ℤ)
standing g = take g.len g.storage

abbrev pub shape_of : Stored → Shape
shape_of t = record { centre = t.centre; axis = t.axis.parts; generators = standing t.generators }

abbrev pub parts_of : Option Radii → Option (List ℤ)
parts_of None = None
parts_of (Some s) = Some s.parts

-- a new spread, absent where one of its parts passes 2^30
abbrev pub narrowed : Option (List ℤ) → Option (List ℤ)
narrowed None = None
narrowed (Some s) = kept_if (narrow s) s

abbrev pub form_of : Option Stored → Form
form_of None = None
form_of (Some t) = Some (record { shape = shape_of t; spread = parts_of t.spread })
