-- Intervals by their ends.
use Rattle.std.specs.Prelude.{ℕ, ◌+◌, ◌*◌, List, [], ◌∷◌, ℤ}
use Rattle.arith.specs.Sums.{part}
use Rattle.domains.specs.declared.enclosure.Interval.{Interval}

-- the interval of part i, counted from 0
abbrev pub interval : List ℤ → ℕ → Interval
interval ends i = record { low = part ends (2 * i); high = part ends (2 * i + 1) }

abbrev pub intervals : List ℤ → List Interval
intervals ends = interval ends 0 ∷ interval ends 1 ∷ interval ends 2 ∷ interval ends 3 ∷ []
