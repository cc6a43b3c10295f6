-- The worked figures, as theorems about the definitions that the contracts of the code cite.
use Rattle.std.specs.Prelude.{◌≡◌, ℕ, ◌+◌, List, [], ◌∷◌, ℤ, pos, negsuc, Some, None, Ok, Err, codes}
use Rattle.arith.specs.Rounding.{floored, nearest, residue}
use Rattle.dynamics.specs.declared.start.Start.{Start}
use Rattle.dynamics.specs.Halves.{lower_centres, upper_centres, half_radii}
use Rattle.dynamics.specs.Refusals.{start_refusal}
use Rattle.dynamics.specs.Support.{exact}
use Rattle.domains.specs.Axes.{unit, axis}
use Rattle.zonotope.specs.Choice.{weight, lightest}
use Rattle.zonotope.specs.Domain.{bounded}
use Rattle.zonotope.specs.Fold.{folded}
use Rattle.zonotope.specs.Shape.{Shape}
use Rattle.zonotope.specs.Spread.{spread_charged}
use Rattle.zonotope.specs.Tight.{after}
use Rattle.plan.specs.declared.faults.FieldFault.TheVariants.{Number}
use Rattle.plan.specs.declared.faults.LineFault.TheVariants.{Field, Sum}
use Rattle.plan.specs.declared.faults.Refusal.TheVariants.{Line}
use Rattle.plan.specs.Grammar.{tabbed}
use Rattle.plan.specs.Numbers.{number_of, fault_at}
use Rattle.plan.specs.Plans.{plan_of}
use Rattle.plan.specs.Report.{told, telling}
use Rattle.plan.specs.Spelling.{Spells}
use Rattle.plan.specs.Values.{start_of}
use Rattle.report.specs.Report.{report_lines, bytes}
use Rattle.report.specs.Tasks.{task}
use Rattle.figures.specs.Worked as worked
use Rattle.figures.specs.Worked.{four, zeros}

-- ---- the generator (3, -5, 0, 1), alone in a zonotope of any centre
abbrev pub generator : List ℤ
generator = four (pos 3) (negsuc 4) (pos 0) (pos 1)

abbrev pub alone : List ℤ → List ℤ → Shape
alone c a = record { centre = c; axis = a; generators = generator ∷ [] }

-- the text of a field is refused as a number with 4, in its line and field, at a place
abbrev pub BadlyWritten : List ℕ → ℕ → Type 0
BadlyWritten text place = (field : ℕ) → number_of field text ≡ Err (fault_at field place)

-- a start's first line with this centre and radius
abbrev pub start_line : List ℕ → List ℕ → List ℕ
start_line p w = tabbed (codes "start" ∷ codes "1" ∷ p ∷ w ∷ [])

pub record Figures : Type 0 where
  -- ---- rounding: down(-1) = -1, down(4095) = 0, down(4096) = 1
  pub down_minus_1 : floored (negsuc 0) ≡ negsuc 0
  pub down_4095 : floored (pos 4095) ≡ pos 0
  pub down_4096 : floored (pos 4096) ≡ pos 1
  -- near(2048) = 1 with residue 2048, near(-2048) = 0 with 2048, near(-2049) = -1 with 2047
  pub near_2048 : (nearest (pos 2048) ≡ pos 1) × (residue (pos 2048) ≡ 2048)
  pub near_minus_2048 : (nearest (negsuc 2047) ≡ pos 0) × (residue (negsuc 2047) ≡ 2048)
  pub near_minus_2049 : (nearest (negsuc 2048) ≡ negsuc 0) × (residue (negsuc 2048) ≡ 2047)
  -- ---- folding (3, -5, 0, 1): weight 4; the axis part grows by (3, 5, 0, 1), the spread by (6, 0, 0, 2)
  pub weighs : weight generator ≡ 4
  pub axis_grows : (c : List ℤ) (i j k l : ℕ) → folded (lightest (generator ∷ [])) (alone c (four (pos i) (pos j) (pos k) (pos l))) ≡ record { centre = c; axis = four (pos (i + 3)) (pos (j + 5)) (pos (k + 0)) (pos (l + 1)); generators = [] }
  pub spread_grows : (c a : List ℤ) (i j k l : ℕ) → spread_charged (alone c a) (four (pos i) (pos j) (pos k) (pos l)) ≡ four (pos (i + 6)) (pos (j + 0)) (pos (k + 0)) (pos (l + 2))
  -- ---- centre 0 with radius 3 halves to centres -1 and 1, radius 2
  pub halved : (s : Start) → s.centres ≡ zeros → s.radii ≡ four (pos 3) (pos 0) (pos 0) (pos 0)
      → (lower_centres s ≡ four (negsuc 0) (pos 0) (pos 0) (pos 0)) × (upper_centres s ≡ four (pos 1) (pos 0) (pos 0) (pos 0)) × (half_radii s ≡ four (pos 2) (pos 0) (pos 0) (pos 0))
  -- ---- the centre 1,073,741,824 is accepted with radius 0 and refused 7 with radius 1, from numbers and in a text
  pub far_accepted : start_refusal (four (pos 1073741824) (pos 0) (pos 0) (pos 0)) zeros ≡ None
  pub far_refused : start_refusal (four (pos 1073741824) (pos 0) (pos 0) (pos 0)) (four (pos 1) (pos 0) (pos 0) (pos 0)) ≡ Some (7, 2)
  pub far_read : start_of 1 (start_line (codes "1073741824") (codes "0")) ≡ Ok (pos 1073741824, pos 0)
  pub far_not_read : start_of 1 (start_line (codes "1073741824") (codes "1")) ≡ Err (Sum 4)
  pub sum_is_7 : (line : ℕ) → told (Line line (Sum 4)) ≡ telling 7 line 4 0
  -- ---- badly written numbers: `-0` and `07` at place 1, the empty field at 0, seventeen digits at 16
  pub minus_nought : BadlyWritten (codes "-0") 1
  pub nought_seven : BadlyWritten (codes "07") 1
  pub no_digit : BadlyWritten [] 0
  pub seventeen_digits : BadlyWritten (codes "12345678901234567") 16
  pub badly_is_4 : (line field place : ℕ) → told (Line line (Field (Number (fault_at field place)))) ≡ telling 4 line field place
  -- ---- the worked plan: what its text spells, its zonotope after one step, the bound on +1, H_1(1, 0, 0, 0), its report
  pub read : plan_of worked.text ≡ Ok worked.plan
  pub spelt : Spells worked.text worked.plan
  pub zonotope : let t = task worked.plan spelt.sound in after t.model t.start 1 ≡ Some worked.standing
  pub reach : bounded (axis 0) (Some worked.standing) ≡ Some (pos 111)
  pub support : let t = task worked.plan spelt.sound in exact t.model t.start 1 (unit 0) ≡ pos 450560
  pub report : bytes (report_lines (task worked.plan spelt.sound)) ≡ worked.report
