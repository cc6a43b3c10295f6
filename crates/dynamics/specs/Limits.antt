-- The limits that checked values keep.
use Rattle.std.specs.Prelude.{ℕ, ◌+◌, ◌^◌, ◌<◌, ◌≤◌, List, ℤ, pos, ◌≤ℤ◌, unsigned_abs}
use Rattle.arith.specs.Sums.{part, entry}

-- each statement follows from the other
abbrev pub Exactly : Type 0 → Type 0 → Type 0
Exactly P Q = (P → Q) × (Q → P)

-- entries within ±2^20
abbrev pub DirectionLimits : List ℤ → Type 0
DirectionLimits l = (i : ℕ) → i < 4 → unsigned_abs (part l i) ≤ 2 ^ 20

-- radii of at least 0, and |p| + w at most 2^30
abbrev pub StartLimits : List ℤ → List ℤ → Type 0
StartLimits p w = ((i : ℕ) → i < 4 → pos 0 ≤ℤ part w i) × ((i : ℕ) → i < 4 → unsigned_abs (part p i) + unsigned_abs (part w i) ≤ 2 ^ 30)

-- entries of a matrix of four rows and n columns within ±2^20
abbrev pub MatrixLimits : ℕ → List (List ℤ) → Type 0
MatrixLimits n a = (i j : ℕ) → i < 4 → j < n → unsigned_abs (entry a i j) ≤ 2 ^ 20

-- radii of at least 0, and |m| + r at most 2^24
abbrev pub GustLimits : List ℤ → List ℤ → Type 0
GustLimits m r = ((j : ℕ) → j < 2 → pos 0 ≤ℤ part r j) × ((j : ℕ) → j < 2 → unsigned_abs (part m j) + unsigned_abs (part r j) ≤ 2 ^ 24)

-- the limits of A and B, and of the two channels
abbrev pub ModelLimits : List (List ℤ) → List (List ℤ) → List ℤ → List ℤ → Type 0
ModelLimits a b m r = MatrixLimits 4 a × MatrixLimits 2 b × GustLimits m r
