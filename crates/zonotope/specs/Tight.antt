-- How near a zonotope's bound stays to the exact support number.
use Rattle.std.specs.Prelude.{ℕ, zero, suc, ◌*◌, ◌^◌, List, ℤ, pos, ◌+ℤ◌, ◌*ℤ◌, ◌≤ℤ◌, Some, None, Option}
use Rattle.dynamics.specs.declared.model.Model.{Model}
use Rattle.dynamics.specs.declared.start.Start.{Start}
use Rattle.dynamics.specs.Support.{exact}
use Rattle.zonotope.specs.Shape.{Shape, bound}
use Rattle.zonotope.specs.Spread.{spread_allowance}
use Rattle.zonotope.specs.Domain.{Form, filled, moved_form}

-- b times 4096^k lies between h and h + e times 4096^k
pub record Between (k : ℕ) (h b : ℤ) (e : ℕ) : Type 0 where
  pub above : h ≤ℤ (pos (4096 ^ k) *ℤ b)
  pub below : (pos (4096 ^ k) *ℤ b) ≤ℤ (h +ℤ pos (4096 ^ k * e))

-- for whole l of any size: the bound is at least the exact support number of k steps, and exceeds
-- it by at most the spread's allowance
abbrev pub Tight : Model → Start → ℕ → Shape → List ℤ → Type 0
Tight m s k z w = (l : ℕ → ℤ) → Between k (exact m s k l) (bound l z) (spread_allowance l w)

-- k advances after a fill
unfoldable pub after : Model → Start → ℕ → Form
after m s zero = filled s None
after m s (suc k) = moved_form m (after m s k)

-- P of the shape and the spread, where both are present
abbrev pub SpreadPresent : Shape → Option (List ℤ) → (Shape → List ℤ → Type 0) → Type 0
SpreadPresent z None P = Unit {0}
SpreadPresent z (Some w) P = P z w

abbrev pub Present : Form → (Shape → List ℤ → Type 0) → Type 0
Present None P = Unit {0}
Present (Some t) P = SpreadPresent t.shape t.spread P

-- after any number of advances, for as long as the spread is present
abbrev pub Tightness : Type 0
Tightness = (m : Model) (s : Start) (k : ℕ) → Present (after m s k) (Tight m s k)
