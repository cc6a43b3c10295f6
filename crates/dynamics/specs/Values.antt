-- The values of a plan as formulas read them. Parts, rows and channels are counted from 0.
use Rattle.std.specs.Prelude.{ℕ, ℤ, unsigned_abs}
use Rattle.arith.specs.Sums.{part, entry}
use Rattle.dynamics.specs.declared.model.Model.{Model}
use Rattle.dynamics.specs.declared.start.Start.{Start}
use Rattle.dynamics.specs.declared.direction.Direction.{Direction}

-- a state: four whole numbers of any size, of which parts 0 to 3 count
abbrev pub State : Type 0
State = ℕ → ℤ

-- A_ij, and B_ij: what channel j adds to part i
abbrev pub loop : Model → ℕ → ℕ → ℤ
loop m i j = entry m.matrix i j

abbrev pub push : Model → ℕ → ℕ → ℤ
push m i j = entry m.gains i j

-- centre and radius of the gusts of channel j; a radius is never negative, so its size is itself
abbrev pub middle : Model → ℕ → ℤ
middle m j = part m.centres j

abbrev pub radius : Model → ℕ → ℕ
radius m j = unsigned_abs (part m.radii j)

-- centre and radius of part i of a start
abbrev pub centre : Start → ℕ → ℤ
centre s i = part s.centres i

abbrev pub width : Start → ℕ → ℕ
width s i = unsigned_abs (part s.radii i)

-- entry i of a direction
abbrev pub along : Direction → ℕ → ℤ
along l i = part l.entries i
