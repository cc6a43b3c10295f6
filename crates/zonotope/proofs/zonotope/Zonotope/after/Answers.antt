use Rattle.std.proofs.Common.{◌≡◌, ℕ, sym, ap, ◌∙◌, subst, add-one, arith}
use Rattle.zonotope.specs.Domain.{Form, moved_form}
use Rattle.zonotope.specs.Tight
use Rattle.zonotope.specs.Tight.{Present}
use Rattle.zonotope.specs.Laws.{tightness}
use Rattle.zonotope.proofs.zonotope.Zonotope.after.Goals as goal

pub loop-init : goal.loop-init
unfolding Tight.after
loop-init c = c.fill.ensures

pub loop-preserved : goal.loop-preserved
unfolding Tight.after
loop-preserved c =
    c.advance.ensures ∙ ap (moved_form c.args.model.now) c.loop.invariant
    ∙ ap (λ (k : ℕ). Tight.after c.args.model.now c.args.start.now k) (sym (add-one c.loop.counter))

pub returns : goal.returns
returns c =
    let m = c.args.model.now in
    let s = c.args.start.now in
    let n : c.loop.counter ≡ c.args.steps = omega (arith, c.loop.auto.counter-end, c.loop-test.false) in
    let e = c.loop.invariant ∙ ap (Tight.after m s) n in
    record { form = e; tight = subst (λ (f : Form). Present f (Tight.Tight m s c.args.steps)) (sym e) (tightness m s c.args.steps) }
