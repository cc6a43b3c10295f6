-- Generators given up for a larger axis part, while more than sixteen stand.
use Rattle.std.specs.Prelude.{ℕ, zero, suc, ◌+◌, ◌-◌, List, [], length, ℤ, pos, slice_index_or, remove}
use Rattle.arith.specs.Sums.{listed}
use Rattle.zonotope.specs.Shape.{Shape, size}
use Rattle.zonotope.specs.Choice.{lightest}

-- four numbers of at least 0, each grown by a vector's |entry|
abbrev pub grown : List ℤ → List ℤ → List ℤ
grown a g = listed 4 (λ i. pos (size a i + size g i))

-- generator p folded: its |entries| go to the axis part
unfoldable pub folded : ℕ → Shape → Shape
folded p z = record {
  centre = z.centre;
  axis = grown z.axis (slice_index_or z.generators p []);
  generators = remove z.generators p;
}

-- n folds, each of the lightest
unfoldable pub folds : ℕ → Shape → Shape
folds zero z = z
folds (suc n) z = folds n (folded (lightest z.generators) z)

-- folded until sixteen stand
abbrev pub reduced : Shape → Shape
reduced z = folds (length z.generators - 16) z
