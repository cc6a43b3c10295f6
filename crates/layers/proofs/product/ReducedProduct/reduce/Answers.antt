use Rattle.std.proofs.Common.{◌≡◌, ℕ, ◌+◌, ◌<◌, ◌≤◌, List, get_or, drop, sym, ap, ◌∙◌}
use Rattle.std.proofs.lemmas.List.{at_drop_more, at_drop_all}
use Rattle.domains.specs.declared.axis.SignedAxis.{SignedAxis}
use Rattle.domains.specs.AllAxes.{all_axes}
use Rattle.domains.specs.Meaning.{Meaning}
use Rattle.layers.specs.Product.{narrowed, narrowed_by}
use Rattle.layers.proofs.product.ReducedProduct.reduce.Goals as goal

-- one axis more, and the end
one_more : {P Q : Type 0} (p : Meaning P) (q : Meaning Q) (i : ℕ) (d : SignedAxis) (as' : List SignedAxis) (f : P × Q) → i < 8 → as' ≡ all_axes
    → narrowed_by p q (drop i all_axes) f ≡ narrowed_by p q (drop (i + 1) all_axes) (narrowed p q (get_or as' i d) f)
unfolding narrowed_by
one_more p q i d as' f h e =
    at_drop_more (λ t. narrowed_by p q t f) all_axes i d h
    ∙ ap (λ (t : List SignedAxis). narrowed_by p q (drop (i + 1) all_axes) (narrowed p q (get_or t i d) f)) (sym e)

at_end : {P Q : Type 0} (p : Meaning P) (q : Meaning Q) (i : ℕ) (f : P × Q) → 8 ≤ i → narrowed_by p q (drop i all_axes) f ≡ f
unfolding narrowed_by
at_end p q i f h = at_drop_all (λ t. narrowed_by p q t f) all_axes i h

pub loop-axis-preserved : goal.loop-axis-preserved
loop-axis-preserved g c =
    let p = g.P.Domain.sense in
    let q = g.Q.Domain.sense in
    let i = c.loop-axis.axis-index in
    ap (λ f. narrowed_by p q (drop (i + 1) all_axes) f) c.narrow.ensures
    ∙ sym (one_more p q i c.axis-item.result c.all-axis-items.result (g.P.Domain.form c.loop-axis.self.left, g.Q.Domain.form c.loop-axis.self.right) c.loop-axis-test.true c.all-axis-items.ensures)
    ∙ c.loop-axis.invariant

pub returns : goal.returns
returns g c =
    sym (at_end g.P.Domain.sense g.Q.Domain.sense c.loop-axis.axis-index (g.P.Domain.form c.loop-axis.self.left, g.Q.Domain.form c.loop-axis.self.right) c.loop-axis-test.false)
    ∙ c.loop-axis.invariant
