use Rattle.std.proofs.Common.{◌≡◌, ℕ, ◌<◌, List, get_or, refl, ap, ◌∙◌}
use Rattle.arith.proofs.Indices.{by8}
use Rattle.domains.specs.declared.axis.SignedAxis.{SignedAxis}
use Rattle.domains.specs.AllAxes.{all_axes}
use Rattle.domains.specs.Axes.{axis}
use Rattle.tube.specs.declared.call.Call.TheVariants.{Bound}
use Rattle.report.proofs.Turns.{push_turn}
use Rattle.report.proofs.questions.ask_bounds.Goals as goal

-- the axis at place i is that of number i
numbered : (d : SignedAxis) (i : ℕ) → i < 8 → (get_or all_axes i d).index ≡ i
numbered d = by8 (λ i. (get_or all_axes i d).index ≡ i) refl refl refl refl refl refl refl refl

pub loop-axis-preserved : goal.loop-axis-preserved
loop-axis-preserved c =
    let i = c.loop-axis.axis-index in
    let d = c.axis-item.result in
    let same : (get_or c.all-axis-items.result i d).index ≡ i = ap (λ (as' : List SignedAxis). (get_or as' i d).index) c.all-axis-items.ensures ∙ numbered d i c.loop-axis-test.true in
    push_turn (λ a. Bound (axis a)) c.args.calls.now.items c.loop-axis.calls.items c.push.new.self.items i _ c.loop-axis.invariant c.in_ok-push.ensures.items (ap Bound (c.direction.ensures ∙ ap axis same))
