-- The ranges of vectors on the way, so that no sum leaves 64 bits.
use Rattle.std.specs.Prelude.{ℕ, ◌+◌, ◌*◌, ◌<◌, ◌≤◌, List, [], ℤ, pos, ◌≤ℤ◌, slice_index_or}
use Rattle.arith.specs.Sums.{part}
use Rattle.zonotope.specs.Shape.{size, sizes}

-- k numbers of at least 0 and at most n, and four of them
abbrev pub CountsOf : ℕ → ℕ → List ℤ → Type 0
CountsOf k n a = (i : ℕ) → i < k → (pos 0 ≤ℤ part a i) × (size a i ≤ n)

abbrev pub Counts : ℕ → List ℤ → Type 0
Counts n a = CountsOf 4 n a

-- four entries within ±n
abbrev pub Entries : ℕ → List ℤ → Type 0
Entries n g = (i : ℕ) → i < 4 → size g i ≤ n

-- every vector of a list has its entries within ±n
abbrev pub AllEntries : ℕ → List (List ℤ) → Type 0
AllEntries n gs = (j : ℕ) → Entries n (slice_index_or gs j [])

-- four numbers of at least 0, which stay at most n when k times the sizes of all vectors' entries are added
abbrev pub Roomy : ℕ → ℕ → List ℤ → List (List ℤ) → Type 0
Roomy k n a gs = (i : ℕ) → i < 4 → (pos 0 ≤ℤ part a i) × (size a i + k * sizes gs i ≤ n)
