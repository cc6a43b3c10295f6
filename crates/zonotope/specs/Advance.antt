-- A zonotope moved through the loop and rounded.
use Rattle.std.specs.Prelude.{ℕ, ◌+◌, ◌/◌, List, [], ◌∷◌, ◌++◌, map, ℤ, pos, ◌*ℤ◌}
use Rattle.arith.specs.Rounding.{nearest, residue}
use Rattle.arith.specs.Sums.{listed, part}
use Rattle.arith.specs.Products.{times_column}
use Rattle.dynamics.specs.declared.model.Model.{Model}
use Rattle.dynamics.specs.Values.{loop, push, middle, radius}
use Rattle.dynamics.specs.Runs.{image}
use Rattle.dynamics.specs.Rows.{allowance}
use Rattle.zonotope.specs.Shape.{Shape, size}

-- A times a vector
abbrev pub moved : (ℕ → ℕ → ℤ) → List ℤ → List ℤ
moved a g = listed 4 (times_column 4 a (part g))

-- k_j times column j of a matrix, for each of n columns
abbrev pub columns : ℕ → (ℕ → ℕ → ℤ) → (ℕ → ℕ) → List (List ℤ)
columns n a k = listed n (λ j. listed 4 (λ i. pos (k j) *ℤ a i j))

-- the vectors before rounding: A times each generator; a_i times A's column i; r_j times B's column j
unfoldable pub images : Model → Shape → List (List ℤ)
images m z = map (moved (loop m)) z.generators ++ (columns 4 (loop m) (size z.axis) ++ columns 2 (push m) (radius m))

-- part i of A c + B m
abbrev pub middle_image : Model → Shape → ℕ → ℤ
middle_image m z i = image m (part z.centre) (middle m) i

-- near of each entry
abbrev pub rounded : List ℤ → List ℤ
rounded u = listed 4 (λ i. nearest (part u i))

-- the sum of the residues of part i
abbrev pub residues : List (List ℤ) → ℕ → ℕ
residues [] i = 0
residues (u ∷ us) i = residue (part u i) + residues us i

-- R_i: the residues of part i, the centre's among them, and the row's allowance
abbrev pub remainder : Model → Shape → ℕ → ℕ
remainder m z i = residue (middle_image m z i) + residues (images m z) i + allowance m i

-- the new a_i: down(R_i + 4095)
abbrev pub new_axis : Model → Shape → ℕ → ℕ
new_axis m z i = (remainder m z i + 4095) / 4096

-- the shape before folding
unfoldable pub advanced : Model → Shape → Shape
advanced m z = record {
  centre = listed 4 (λ i. nearest (middle_image m z i));
  axis = listed 4 (λ i. pos (new_axis m z i));
  generators = map rounded (images m z);
}
