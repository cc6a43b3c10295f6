-- How much a gain of the loop or of the gusts may be, once an axis or a direction has chosen rows.
use Rattle.std.specs.Prelude.{ℕ, ◌^◌, ◌<◌, ◌≤◌, List, ℤ, unsigned_abs}
use Rattle.arith.specs.Sums.{part}

-- n gains within ±2^22
abbrev pub GainLimits : ℕ → List ℤ → Type 0
GainLimits n g = (j : ℕ) → j < n → unsigned_abs (part g j) ≤ 2 ^ 22
