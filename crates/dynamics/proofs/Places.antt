-- The first number outside its range, found by a loop, and what is known where there is none.
use Rattle.std.proofs.Common.{◌≡◌, ℕ, ◌+◌, ◌^◌, ◌<◌, ◌≤◌, true, false, List, [], ◌++◌, length, get_or, drop, ℤ, pos, Some, None, refl, ◌∙◌}
use Rattle.std.proofs.lemmas.List.{at_drop_more, at_drop_all}
use Rattle.std.proofs.lemmas.Bool.{cond-true, cond-false}
use Rattle.arith.specs.Sums.{entry}
use Rattle.arith.proofs.Indices.{by4}
use Rattle.dynamics.specs.declared.ranges.Ranged.{Ranged}
use Rattle.dynamics.specs.Ranges.{within, outside, first_outside, matrix_rows, joined}

-- what stands past the end, for `get_or`
abbrev pub nothing : Ranged
nothing = record { value = pos 0; least = pos 0; most = pos 0 }

-- ---- a loop over a list, of which `rest` follows
pub number_good : (ns rest : List Ranged) (j k : ℕ) → j < length ns → outside (get_or ns j nothing) ≡ false
    → first_outside k (drop j ns ++ rest) ≡ first_outside (k + 1) (drop (j + 1) ns ++ rest)
unfolding first_outside
number_good ns rest j k h e = at_drop_more (λ t. first_outside k (t ++ rest)) ns j nothing h ∙ cond-false _ _ _ e

pub number_bad : (ns rest : List Ranged) (j k : ℕ) → j < length ns → outside (get_or ns j nothing) ≡ true → first_outside k (drop j ns ++ rest) ≡ Some (k + 1)
unfolding first_outside
number_bad ns rest j k h e = at_drop_more (λ t. first_outside k (t ++ rest)) ns j nothing h ∙ cond-true _ _ _ e

pub numbers_end : (ns rest : List Ranged) (j k : ℕ) → length ns ≤ j → first_outside k (drop j ns ++ rest) ≡ first_outside k rest
numbers_end ns rest j k h = at_drop_all (λ t. first_outside k (t ++ rest)) ns j h

-- ---- a loop over rows
pub row_begins : (rows : List (List Ranged)) (i k : ℕ) → i < length rows
    → first_outside k (joined (drop i rows)) ≡ first_outside k (get_or rows i [] ++ joined (drop (i + 1) rows))
unfolding joined
row_begins rows i k h = at_drop_more (λ t. first_outside k (joined t)) rows i [] h

pub rows_end : (rows : List (List Ranged)) (i k : ℕ) → length rows ≤ i → first_outside k (joined (drop i rows)) ≡ None
unfolding first_outside joined
rows_end rows i k h = at_drop_all (λ t. first_outside k (joined t)) rows i h

-- ---- the matrix by row and column
-- the numbers of row i, and the one in column j
pub row_length : (a : List (List ℤ)) (i : ℕ) → i < 4 → length (get_or (matrix_rows a) i []) ≡ 4
row_length a = by4 (λ i. length (get_or (matrix_rows a) i []) ≡ 4) refl refl refl refl

pub cell_number : (a : List (List ℤ)) (i j : ℕ) → i < 4 → j < 4 → get_or (get_or (matrix_rows a) i []) j nothing ≡ within (pos (2 ^ 20)) (entry a i j)
cell_number a i j h k =
    let P : ℕ → ℕ → Type 0 = λ m n. get_or (get_or (matrix_rows a) m []) n nothing ≡ within (pos (2 ^ 20)) (entry a m n) in
    by4 (λ m. P m j) (by4 (P 0) refl refl refl refl j k) (by4 (P 1) refl refl refl refl j k) (by4 (P 2) refl refl refl refl j k) (by4 (P 3) refl refl refl refl j k) i h
