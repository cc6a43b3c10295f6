-- Sums over an index, and lists that are written from one.
-- A vector of the code is a list of its parts; in a formula it is a function of the index.
use Rattle.std.specs.Prelude.{ℕ, zero, suc, ◌+◌, Bool, true, false, List, [], ◌∷◌, ℤ, pos, ◌+ℤ◌, slice_index_or}

-- f 0 + .. + f (n - 1)
unfoldable pub sum : ℕ → (ℕ → ℤ) → ℤ
sum zero f = pos 0
sum (suc n) f = f 0 +ℤ sum n (λ i. f (suc i))

-- the same of numbers of at least 0
unfoldable pub total : ℕ → (ℕ → ℕ) → ℕ
total zero f = 0
total (suc n) f = f 0 + total n (λ i. f (suc i))

-- the list of f 0, .., f (n - 1)
unfoldable pub listed : {A : Type 0} → ℕ → (ℕ → A) → List A
listed zero f = []
listed (suc n) f = f 0 ∷ listed n (λ i. f (suc i))

-- the test passes at 0, .., n - 1
unfoldable pub every : ℕ → (ℕ → Bool) → Bool
every zero p = true
every (suc n) p = elim (p 0) [ true ↦ every n (λ i. p (suc i)) | false ↦ false ]

-- part i of a vector, counted from 0; 0 past its end
abbrev pub part : List ℤ → ℕ → ℤ
part xs i = slice_index_or xs i (pos 0)

-- the entry of row i and column j of a matrix
abbrev pub entry : List (List ℤ) → ℕ → ℕ → ℤ
entry a i j = part (slice_index_or a i []) j
