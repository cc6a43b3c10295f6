-- The signed axes 0 to 7: +1, -1, +2, -2, +3, -3, +4, -4.
use Rattle.std.specs.Prelude.{ℕ, ◌/◌, ◌%◌, ◌^◌, ◌≤◌, Bool, true, false, if◌then◌else◌, ℤ, pos, negsuc, neg_ℤ, ◌==◌, unsigned_abs}
use Rattle.std.proofs.Common.{arith}
use Rattle.arith.specs.Sums.{listed}
use Rattle.arith.proofs.Sums.{listed_at}
use Rattle.dynamics.specs.declared.direction.Direction.{Direction}
use Rattle.dynamics.specs.Limits.{DirectionLimits}
use Rattle.dynamics.specs.Values.{State}

-- axis a looks at part a / 2, counted from 0, with + where a is even and - where it is odd
abbrev pub signed : ℕ → State → ℤ
signed a x = if a % 2 == 0 then x (a / 2) else neg_ℤ (x (a / 2))

-- the entries of axis a as a direction: 1 or -1 at its part
abbrev pub unit : ℕ → ℕ → ℤ
unit a i = if i == a / 2 then (if a % 2 == 0 then pos 1 else negsuc 0) else pos 0

-- they keep a direction's limits
unit_limit : (b c : Bool) → unsigned_abs (if b then (if c then pos 1 else negsuc 0) else pos 0) ≤ 2 ^ 20
unit_limit true true = omega arith
unit_limit true false = omega arith
unit_limit false c = omega arith

pub unit_limits : (a : ℕ) → DirectionLimits (listed 4 (unit a))
unit_limits a i h = rw (listed_at 4 (unit a) (pos 0) i h) (unit_limit (i == a / 2) (a % 2 == 0))

-- axis a as a direction
abbrev pub axis : ℕ → Direction
axis a = record { entries = listed 4 (unit a); limited = unit_limits a }
