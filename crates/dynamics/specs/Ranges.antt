-- Numbers against their ranges, and which refusal they give.
use Rattle.std.specs.Prelude.{ℕ, ◌+◌, ◌^◌, Bool, cond, ◌||◌, List, [], ◌∷◌, ◌++◌, ℤ, pos, neg_ℤ, Some, None, Option, int_lt, nat_lt, slice_index_or, unsigned_abs}
use Rattle.arith.specs.Sums.{part}
use Rattle.dynamics.specs.declared.ranges.Ranged.{Ranged}

-- a number that is to lie within ±limit, and one that is to lie between 0 and limit
abbrev pub within : ℤ → ℤ → Ranged
within limit z = record { value = z; least = neg_ℤ limit; most = limit }

abbrev pub up_to : ℤ → ℤ → Ranged
up_to limit z = record { value = z; least = pos 0; most = limit }

-- the number lies below the least or above the most of its range
abbrev pub outside : Ranged → Bool
outside n = int_lt n.value n.least || int_lt n.most n.value

-- the place, counted from 1 where k numbers stand before these, of the first number outside its range
unfoldable pub first_outside : ℕ → List Ranged → Option ℕ
first_outside k [] = None
first_outside k (n ∷ ns) = cond (outside n) (Some (k + 1)) (first_outside (k + 1) ns)

-- centre and radius, each within its range, are too large together
abbrev pub too_large : ℕ → ℤ → ℤ → Bool
too_large limit c r = nat_lt limit (unsigned_abs c + unsigned_abs r)

-- the four numbers of a row, each to lie within ±2^20
abbrev pub row_numbers : List ℤ → List Ranged
row_numbers r = within (pos (2 ^ 20)) (part r 0) ∷ (within (pos (2 ^ 20)) (part r 1) ∷ (within (pos (2 ^ 20)) (part r 2) ∷ (within (pos (2 ^ 20)) (part r 3) ∷ [])))

-- the rows of the loop matrix, and lists one after the other
abbrev pub matrix_rows : List (List ℤ) → List (List Ranged)
matrix_rows a = row_numbers (slice_index_or a 0 []) ∷ (row_numbers (slice_index_or a 1 []) ∷ (row_numbers (slice_index_or a 2 []) ∷ (row_numbers (slice_index_or a 3 []) ∷ [])))

unfoldable pub joined : List (List Ranged) → List Ranged
joined [] = []
joined (r ∷ rs) = r ++ joined rs
