use Rattle.std.proofs.Common.{List, [], ◌∷◌, ◌++◌, vec_items, ap, ◌∙◌}
use Rattle.std.proofs.lemmas.List.{append_assoc}
use Rattle.tube.specs.declared.call.Call.{Call}
use Rattle.tube.specs.declared.call.Call.TheVariants.{Step}
use Rattle.report.specs.Questions.{bound_calls}
use Rattle.report.proofs.Turns.{block_turn}
use Rattle.report.proofs.questions.ask_steps.Goals as goal

pub loop-preserved : goal.loop-preserved
loop-preserved c =
    let p = c.in_ok-push.ensures.items in
    let q = c.in_ok-ask_bounds.ensures in
    block_turn (λ k. Step ∷ bound_calls) (vec_items c.args.calls.now) (vec_items c.loop.calls) _ c.loop.counter c.loop.invariant
    (q ∙ ap (λ (t : List Call). t ++ bound_calls) p ∙ append_assoc (vec_items c.loop.calls) (Step ∷ []) bound_calls)
