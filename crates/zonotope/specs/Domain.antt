-- The zonotope as a domain: its condition, and what each call makes of it.
use Rattle.std.specs.Prelude.{ℕ, ◌^◌, ◌<◌, ◌≤◌, Bool, true, false, List, [], ℤ, pos, Some, None, Option, nat_le, slice_get}
use Rattle.arith.specs.Sums.{listed, every}
use Rattle.dynamics.specs.declared.model.Model.{Model}
use Rattle.dynamics.specs.declared.start.Start.{Start}
use Rattle.dynamics.specs.declared.direction.Direction.{Direction}
use Rattle.dynamics.specs.Values.{State, centre, width, along}
use Rattle.domains.specs.Meaning.{Meaning}
use Rattle.zonotope.specs.Shape.{Shape, Held, bound, size, extent}
use Rattle.zonotope.specs.Advance.{advanced}
use Rattle.zonotope.specs.Fold.{reduced}
use Rattle.zonotope.specs.Spread.{moved_spread, spread_allowance}

-- a bounded zonotope, with its spread where that is present
pub record Standing : Type 0 where
  pub shape : Shape
  pub spread : Option (List ℤ)

-- None is unbounded
abbrev pub Form : Type 0
Form = Option Standing

-- every |c_i| + a_i + sum of |g_ji| is at most 2^30
abbrev pub Fitting : Form → Type 0
Fitting None = Unit {0}
Fitting (Some t) = (i : ℕ) → i < 4 → extent t.shape i ≤ 2 ^ 30

-- an unbounded zonotope holds every state
abbrev pub Holds : Form → State → Type 0
Holds None x = Unit {0}
Holds (Some t) x = Held t.shape x

-- fill: the start's centre and radii, no generators, a spread of zeros
abbrev pub begun : Start → Shape
begun s = record { centre = listed 4 (centre s); axis = listed 4 (λ i. pos (width s i)); generators = [] }

abbrev pub filled : Start → Form → Form
filled s f = Some (record { shape = begun s; spread = Some (listed 4 (λ i. pos 0)) })

-- present where the test passed
abbrev pub kept_if : {A : Type 0} → Bool → A → Option A
kept_if true a = Some a
kept_if false a = None

-- no |c_i| + a_i + sum of |g_ji| exceeds 2^30
abbrev pub bounds : Shape → Bool
bounds z = every 4 (λ i. nat_le (extent z i) (2 ^ 30))

-- no z_i passes 2^30
abbrev pub narrow : List ℤ → Bool
narrow s = every 4 (λ i. nat_le (size s i) (2 ^ 30))

-- advance: moved, rounded, folded, and then tested for size
unfoldable pub moved_shape : Model → Shape → Shape
moved_shape m z = reduced (advanced m z)

-- an absent spread stays absent
abbrev pub spread_of : Model → Shape → Option (List ℤ) → Option (List ℤ)
spread_of m z None = None
spread_of m z (Some s) = kept_if (narrow (moved_spread m z s)) (moved_spread m z s)

abbrev pub stood : Model → Standing → Form
stood m t = kept_if (bounds (moved_shape m t.shape)) (record { shape = moved_shape m t.shape; spread = spread_of m t.shape t.spread })

abbrev pub moved_form : Model → Form → Form
moved_form m None = None
moved_form m (Some t) = stood m t

abbrev pub bounded : Direction → Form → Option ℤ
bounded l None = None
bounded l (Some t) = Some (bound (along l) t.shape)

-- a cut leaves it unchanged
abbrev pub zonotope : Meaning Form
zonotope = record { fits = Fitting; holds = Holds; filled = filled; advanced = moved_form; bounded = bounded; trimmed = λ a t f. f }

-- ---- what is answered of a form: absent where it is unbounded
abbrev pub form_centre : Form → Option (List ℤ)
form_centre None = None
form_centre (Some t) = Some t.shape.centre

abbrev pub form_axis : Form → Option (List ℤ)
form_axis None = None
form_axis (Some t) = Some t.shape.axis

-- generator j, absent past the last
abbrev pub form_generator : ℕ → Form → Option (List ℤ)
form_generator j None = None
form_generator j (Some t) = slice_get t.shape.generators j

abbrev pub form_spread : Form → Option (List ℤ)
form_spread None = None
form_spread (Some t) = t.spread

-- the allowance of a spread in direction l
abbrev pub spread_answer : (ℕ → ℤ) → Option (List ℤ) → Option ℤ
spread_answer l None = None
spread_answer l (Some s) = Some (pos (spread_allowance l s))
