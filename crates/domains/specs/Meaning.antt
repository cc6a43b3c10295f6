-- What an abstract domain means, and when that is lawful.
use Rattle.std.specs.Prelude.{◌^◌, ◌≤◌, ℤ, ◌≤ℤ◌, Some, None, Option, unsigned_abs}
use Rattle.arith.specs.Products.{dot}
use Rattle.dynamics.specs.declared.model.Model.{Model}
use Rattle.dynamics.specs.declared.start.Start.{Start}
use Rattle.dynamics.specs.declared.direction.Direction.{Direction}
use Rattle.dynamics.specs.Values.{State, along}
use Rattle.dynamics.specs.Runs.{Started, Permitted}
use Rattle.domains.specs.declared.axis.SignedAxis.{SignedAxis}
use Rattle.domains.specs.Axes.{signed}

-- what the values of a domain are, as plain forms, and what each call makes of a form
pub record Meaning (Form : Type 0) : Type 1 where
  -- the forms that a value can have
  pub fits : Form → Type 0
  -- the states that a form holds
  pub holds : Form → State → Type 0
  pub filled : Start → Form → Form
  pub advanced : Model → Form → Form
  pub bounded : Direction → Form → Option ℤ
  pub trimmed : SignedAxis → ℤ → Form → Form

-- of a bound: absent, or a number of which P holds
abbrev pub Answer : Option ℤ → (ℤ → Type 0) → Type 0
Answer None P = Unit {0}
Answer (Some b) P = P b

-- the laws, from any form that a value can have
pub record Lawful {Form : Type 0} (d : Meaning Form) : Type 0 where
  pub fill_fits : (s : Start) (f : Form) → d.fits f → d.fits (d.filled s f)
  pub advance_fits : (m : Model) (f : Form) → d.fits f → d.fits (d.advanced m f)
  pub cut_fits : (a : SignedAxis) (t : ℤ) (f : Form) → d.fits f → d.fits (d.trimmed a t f)
  -- after fill every state of the start is held
  pub fill : (s : Start) (f : Form) (x : State) → d.fits f → Started s x → d.holds (d.filled s f) x
  -- after advance every permitted successor of a held state is held
  pub advance : (m : Model) (f : Form) (x y : State) → d.fits f → d.holds f x → Permitted m x y → d.holds (d.advanced m f) y
  -- a bound is absent, or within ±2^52 and at least l x for every held x
  pub bound_limit : (l : Direction) (f : Form) → d.fits f → Answer (d.bounded l f) (λ b. unsigned_abs b ≤ 2 ^ 52)
  pub bound : (l : Direction) (f : Form) (x : State) → d.fits f → d.holds f x → Answer (d.bounded l f) (λ b. dot (along l) x ≤ℤ b)
  -- a held state whose signed part is at most t stays held, and none is added
  pub cut_keeps : (a : SignedAxis) (t : ℤ) (f : Form) (x : State) → d.fits f → d.holds f x → signed a.index x ≤ℤ t → d.holds (d.trimmed a t f) x
  pub cut_adds_none : (a : SignedAxis) (t : ℤ) (f : Form) (x : State) → d.fits f → d.holds (d.trimmed a t f) x → d.holds f x
