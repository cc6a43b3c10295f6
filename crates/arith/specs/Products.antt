-- Products of vectors and matrices. A matrix is a function of row and column.
use Rattle.std.specs.Prelude.{ℕ, ◌*◌, ℤ, ◌*ℤ◌, unsigned_abs}
use Rattle.arith.specs.Sums.{sum, total}

-- the scalar product of two vectors of four parts
abbrev pub dot : (ℕ → ℤ) → (ℕ → ℤ) → ℤ
dot l x = sum 4 (λ i. l i *ℤ x i)

-- part j of a row of four times a matrix of four rows
abbrev pub row_times : (ℕ → ℤ) → (ℕ → ℕ → ℤ) → ℕ → ℤ
row_times l a j = sum 4 (λ i. l i *ℤ a i j)

-- part i of a matrix of n columns times a column
abbrev pub times_column : ℕ → (ℕ → ℕ → ℤ) → (ℕ → ℤ) → ℕ → ℤ
times_column n a x i = sum n (λ j. a i j *ℤ x j)

-- the sum of |l_i| a_i
abbrev pub spanned : (ℕ → ℤ) → (ℕ → ℕ) → ℕ
spanned l a = total 4 (λ i. unsigned_abs (l i) * a i)
