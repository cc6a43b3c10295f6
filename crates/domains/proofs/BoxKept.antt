-- Every interval box keeps its limits.
use Rattle.std.proofs.Common.{Some, None, Option}
use Rattle.domains.specs.declared.limits.Limits.{Limits}
use Rattle.domains.specs.declared.interval_box.IntervalBox.{IntervalBox}
use Rattle.domains.specs.Box.{Fitting}
use Rattle.domains.specs.BoxForms.{limits_of}

limits_kept : (o : Option Limits) → Fitting (limits_of o)
limits_kept None = tt
limits_kept (Some l) = (l.eight, l.small)

pub box-kept : (b : IntervalBox) → Fitting (limits_of b.limits)
box-kept b = limits_kept b.limits
