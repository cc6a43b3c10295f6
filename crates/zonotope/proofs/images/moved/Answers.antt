use Rattle.std.proofs.Common.{◌^◌, ◌≤◌, List, [], map, length, get_or, ℤ, sym, ap, ◌∙◌, subst, arith}
use Rattle.std.proofs.lemmas.List.{take_all}
use Rattle.dynamics.specs.Values.{loop}
use Rattle.zonotope.specs.Shape.{size}
use Rattle.zonotope.specs.Advance
use Rattle.zonotope.specs.Grown.{map_pushed}
use Rattle.zonotope.proofs.ImageLimits.{loop-column_is}
use Rattle.zonotope.proofs.StoredLimits.{standing_none, stored_entries}
use Rattle.zonotope.proofs.images.moved.Goals as goal

pub loop-generator-init : goal.loop-generator-init
loop-generator-init c = (standing_none c.new-moved.result c.new-moved.ensures, c.new-moved.ensures)

pub push-requires : goal.push-requires
push-requires c = omega (arith, c.args.stored.now.few, ap length c.as_slice-generator-items.ensures, c.loop-generator.invariant.1)

pub loop-generator-preserved : goal.loop-generator-preserved
loop-generator-preserved c =
    let gs = c.as_slice-generator-items.result.now in
    let k = c.loop-generator.generator-index in
    let m = c.args.model.now in (
      map_pushed (Advance.moved (loop m)) [] gs k _ c.loop-generator-test.true c.push.ensures.list c.loop-generator.invariant.0
          (loop-column_is m (get_or gs k []) (λ i h. subst (λ (xs : List (List ℤ)). size (get_or xs k []) i ≤ 2 ^ 30) (sym c.as_slice-generator-items.ensures) (stored_entries c.args.stored.now k i h)) c.matrix-matrix.ensures c.times_column.ensures.exact),
      omega (arith, c.push.ensures.len, c.loop-generator.invariant.1),
    )

pub returns : goal.returns
returns c =
    let gs = c.as_slice-generator-items.result.now in
    record {
      list = c.loop-generator.invariant.0 ∙ ap (map (Advance.moved (loop c.args.model.now))) (take_all c.loop-generator.generator-index gs c.loop-generator-test.false ∙ c.as_slice-generator-items.ensures);
      few = omega (arith, c.loop-generator.invariant.1, c.loop-generator.auto.generator-index-end, ap length c.as_slice-generator-items.ensures, c.args.stored.now.few);
    }
