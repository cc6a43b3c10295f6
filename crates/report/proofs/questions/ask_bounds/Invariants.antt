use Rattle.std.proofs.Common.{◌≡◌, ◌++◌, map, vec_items}
use Rattle.std.specs.List.{range_with_len}
use Rattle.domains.specs.Axes.{axis}
use Rattle.tube.specs.declared.call.Call.TheVariants.{Bound}
use Rattle.report.proofs.questions.ask_bounds.Given as goal

abbrev pub invariant-loop-axis : goal.invariant-loop-axis
invariant-loop-axis l = vec_items l.calls ≡ vec_items l.initial.calls ++ map (λ a. Bound (axis a)) (range_with_len 0 l.axis-index)
