-- A start cut in two on its widest part.
use Rattle.std.specs.Prelude.{ℕ, ◌-◌, ◌/◌, ◌<◌, ◌≤◌, cond, ◌⊎◌, List, ℤ, pos, ◌+ℤ◌, neg_ℤ, ◌==◌, nat_lt}
use Rattle.arith.specs.Sums.{listed}
use Rattle.dynamics.specs.declared.start.Start.{Start}
use Rattle.dynamics.specs.Values.{State, centre, width}
use Rattle.dynamics.specs.Runs.{Started}

-- of two parts the wider, the first where both are as wide
abbrev pub wider : (ℕ → ℕ) → ℕ → ℕ → ℕ
wider w a b = cond (nat_lt (w a) (w b)) b a

-- the widest of the four parts, the first among equals
abbrev pub widest : (ℕ → ℕ) → ℕ
widest w = wider w (wider w (wider w 0 1) 2) 3

-- p is the first of the four parts where w is greatest
pub record FirstWidest (w : ℕ → ℕ) (p : ℕ) : Type 0 where
  pub inside : p < 4
  pub greatest : (k : ℕ) → k < 4 → w k ≤ w p
  pub first : (k : ℕ) → k < p → w k < w p

-- how far the halves' centres lie from the whole's: with radius w and half s = w - w / 2, rounded up, by w - s; nothing below 2
abbrev pub shift : Start → ℕ
shift s = width s (widest (width s)) / 2

abbrev pub half_radii : Start → List ℤ
half_radii s = listed 4 (λ i. pos (cond (i == widest (width s)) (width s i - shift s) (width s i)))

-- the centres of a start whose widest part is moved by d
abbrev pub moved : ℤ → Start → List ℤ
moved d s = listed 4 (λ i. cond (i == widest (width s)) (centre s i +ℤ d) (centre s i))

-- the lower half lies at p - (w - s), the upper one at p + (w - s)
abbrev pub lower_centres : Start → List ℤ
lower_centres s = moved (neg_ℤ (pos (shift s))) s

abbrev pub upper_centres : Start → List ℤ
upper_centres s = moved (pos (shift s)) s

-- two starts cover a start and lie within it
pub record Covering (s a b : Start) : Type 0 where
  pub covers : (x : State) → Started s x → Started a x ⊎ Started b x
  pub lower_within : (x : State) → Started a x → Started s x
  pub upper_within : (x : State) → Started b x → Started s x
