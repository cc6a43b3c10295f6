-- The interval box: a limit for each signed axis, or unbounded.
use Rattle.std.specs.Prelude.{◌≡◌, ℕ, ◌+◌, ◌*◌, ◌/◌, ◌^◌, ◌<◌, ◌≤◌, Bool, if◌then◌else◌, List, length, ℤ, pos, negsuc, ◌+ℤ◌, ◌*ℤ◌, ◌≤ℤ◌, Some, None, Option, int_lt, nat_le, slice_set, unsigned_abs}
use Rattle.std.specs.Bool.{then_some}
use Rattle.arith.specs.Rounding.{floored}
use Rattle.arith.specs.Sums.{sum, listed, every, part}
use Rattle.arith.specs.Products.{spanned}
use Rattle.dynamics.specs.declared.model.Model.{Model}
use Rattle.dynamics.specs.declared.start.Start.{Start}
use Rattle.dynamics.specs.declared.direction.Direction.{Direction}
use Rattle.dynamics.specs.Values.{State, centre, width, along}
use Rattle.dynamics.specs.Rows.{allowance}
use Rattle.dynamics.specs.Support.{through, gusts}
use Rattle.domains.specs.declared.axis.SignedAxis.{SignedAxis}
use Rattle.domains.specs.Axes.{signed, unit}
use Rattle.domains.specs.Meaning.{Meaning}

-- None is unbounded; else the eight limits U, by signed axis
abbrev pub Form : Type 0
Form = Option (List ℤ)

-- eight limits, each within ±2^30
abbrev pub Fitting : Form → Type 0
Fitting None = Unit {0}
Fitting (Some u) = (length u ≡ 8) × ((a : ℕ) → a < 8 → unsigned_abs (part u a) ≤ 2 ^ 30)

-- x is held where each signed part is at most its limit; an unbounded box holds every state
abbrev pub Holds : Form → State → Type 0
Holds None x = Unit {0}
Holds (Some u) x = (a : ℕ) → a < 8 → signed a x ≤ℤ part u a

-- fill: ±p_i + w_i
abbrev pub start_limit : Start → ℕ → ℤ
start_limit s a = signed a (centre s) +ℤ pos (width s (a / 2))

abbrev pub filled : Start → Form → Form
filled s f = Some (listed 8 (start_limit s))

-- of two limits the one on the axis with the entry's sign
abbrev pub side : ℤ → ℤ → ℤ → ℤ
side (pos n) upper lower = upper
side (negsuc n) upper lower = lower

-- S(l): the sum of |l_i| times the limit on the axis with l_i's sign
abbrev pub support : (ℕ → ℤ) → List ℤ → ℤ
support l u = sum 4 (λ i. pos (unsigned_abs (l i)) *ℤ side (l i) (part u (2 * i)) (part u (2 * i + 1)))

abbrev pub bounded : Direction → Form → Option ℤ
bounded l None = None
bounded l (Some u) = Some (support (along l) u)

-- the limit in direction l after a step: down(S(l A) + gusts + sum of |l_i| times row i's allowance)
abbrev pub carried : Model → List ℤ → (ℕ → ℤ) → ℤ
carried m u l = floored (support (through m l) u +ℤ gusts m l +ℤ pos (spanned l (allowance m)))

-- no limit lies beyond ±2^30
abbrev pub within : List ℤ → Bool
within u = every 8 (λ a. nat_le (unsigned_abs (part u a)) (2 ^ 30))

-- advance: all eight limits from the old ones; unbounded where one lies beyond ±2^30
abbrev pub advanced : Model → Form → Form
advanced m None = None
advanced m (Some u) = let v = listed 8 (λ a. carried m u (unit a)) in then_some (within v) v

-- cut: the lower of limit a and t; a t beyond ±2^30 is ignored
abbrev pub lowered : ℕ → ℤ → List ℤ → List ℤ
lowered a t u = if int_lt t (part u a) then slice_set u a t else u

abbrev pub trimmed : SignedAxis → ℤ → Form → Form
trimmed a t None = None
trimmed a t (Some u) = Some (if nat_le (unsigned_abs t) (2 ^ 30) then lowered a.index t u else u)

abbrev pub box : Meaning Form
box = record { fits = Fitting; holds = Holds; filled = filled; advanced = advanced; bounded = bounded; trimmed = trimmed }
