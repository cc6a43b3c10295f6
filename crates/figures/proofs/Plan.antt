-- The figures of the worked plan.
use Rattle.std.proofs.Common.{◌≡◌, pos, Some, Ok, refl}
use Rattle.arith.specs.Sums.{sum, total, listed, every}
use Rattle.dynamics.specs.Support.{exact}
use Rattle.domains.specs.Axes.{unit, axis}
use Rattle.zonotope.specs.Advance.{images, advanced}
use Rattle.zonotope.specs.Domain.{moved_shape, bounded}
use Rattle.zonotope.specs.Fold.{folded, folds}
use Rattle.zonotope.specs.Spread.{spread_advanced, spreads}
use Rattle.zonotope.specs.Tight.{after}
use Rattle.plan.specs.Plans.{plan_of, tail_at}
use Rattle.plan.specs.Spelling.{Spells}
use Rattle.plan.proofs.Law.{plan_sure}
use Rattle.layers.specs.Product.{narrowed_by}
use Rattle.std.specs.Fmt.{digits}
use Rattle.tube.specs.Promise.{form_at}
use Rattle.report.specs.Verdicts.{verdict}
use Rattle.report.specs.Report.{report_lines, bytes}
use Rattle.report.specs.Tasks.{task}
use Rattle.figures.specs.Worked as worked

pub read : plan_of worked.text ≡ Ok worked.plan
unfolding tail_at
read = refl

pub spelt : Spells worked.text worked.plan
spelt = plan_sure worked.text worked.plan read

pub reach : bounded (axis 0) (Some worked.standing) ≡ Some (pos 111)
unfolding sum total listed
reach = refl

pub support : exact (task worked.plan spelt.sound).model (task worked.plan spelt.sound).start 1 (unit 0) ≡ pos 450560
unfolding sum total listed
support = refl

pub zonotope : after (task worked.plan spelt.sound).model (task worked.plan spelt.sound).start 1 ≡ Some worked.standing
unfolding after moved_shape images advanced folds folded spread_advanced spreads sum total listed every
zonotope = refl

pub report : bytes (report_lines (task worked.plan spelt.sound)) ≡ worked.report
unfolding form_at verdict narrowed_by digits moved_shape images advanced folds folded sum total listed every
report = refl
