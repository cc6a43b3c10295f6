use Rattle.std.proofs.Common.{ℕ, ◌<◌, ◌≤◌, List, [], ◌∷◌, ◌++◌, ℤ, ◌-ℤ◌, nat_abs, vec_items, sym, ap, ◌∙◌, subst}
use Rattle.arith.specs.Sums.{part}
use Rattle.dynamics.specs.Values.{middle, radius}
use Rattle.trials.proofs.Walks.{begun, more, near_parts}
use Rattle.trials.proofs.walk.Walk.draw.Goals as goal
use Rattle.trials.proofs.walk.Walk.draw.Goals.{then-not-steady, else-not-steady}

pub loop-init : goal.loop-init
loop-init c = (begun c.args.model.now c.args.start.now _ _ (c.in_ok-push.ensures.items ∙ ap (λ (xs : List (List ℤ)). xs ++ (c.first_state-x.result ∷ [])) c.new-states.ensures.items) c.first_state-x.ensures, c.draw_gusts-gusts.ensures)

pub successor-next-requires : goal.successor-next-requires
successor-next-requires c = record { near = near_parts c.loop.x c.if-not-is_near.false c.is_near.ensures; calm = c.loop.invariant.1 }

pub loop-preserved : goal.loop-preserved
loop-preserved c =
    let m = c.args.model.now in
    let Calm : List ℤ → Type 0 = λ d. (j : ℕ) → j < 2 → nat_abs (part d j -ℤ middle m j) ≤ radius m j in (
      more m c.args.start.now (vec_items c.loop.states) (vec_items c.push-in-loop.new.self) c.loop.x c.successor-next.result c.loop.invariant.0 c.successor-next.ensures c.in_ok-push-2.ensures.items,
      elim c.if-not-steady.branch [
        | then-not-steady w ↦ subst Calm (sym w.gusts-is) w.draw_gusts-gusts-then-not-steady.ensures
        | else-not-steady w ↦ subst Calm (sym w.gusts-is) c.loop.invariant.1
      ],
    )
