-- Whole rows, and what the rounding of a row may hide.
use Rattle.std.specs.Prelude.{ℕ, ◌%◌, Bool, true, false, ◌&&◌, ℤ, ◌==◌, unsigned_abs}
use Rattle.arith.specs.Sums.{every}
use Rattle.dynamics.specs.declared.model.Model.{Model}
use Rattle.dynamics.specs.Values.{loop, push}

-- divisible by 4096
abbrev pub multiple : ℤ → Bool
multiple z = unsigned_abs z % 4096 == 0

-- every entry of A and of B in row i is divisible by 4096
abbrev pub whole : Model → ℕ → Bool
whole m i = every 4 (λ j. multiple (loop m i j)) && every 2 (λ j. multiple (push m i j))

-- 0 for a whole row, 4095 for any other
abbrev pub allowed : Bool → ℕ
allowed true = 0
allowed false = 4095

-- the allowance of row i
abbrev pub allowance : Model → ℕ → ℕ
allowance m i = allowed (whole m i)
