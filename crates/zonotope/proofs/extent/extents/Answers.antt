use Rattle.std.proofs.Common.{◌≡◌, ℕ, ◌+◌, ◌^◌, ◌<◌, ◌≤◌, List, [], get_or, take, ℤ, pos, ap, ◌∙◌, arith}
use Rattle.std.proofs.lemmas.List.{take_all}
use Rattle.arith.specs.Sums.{listed}
use Rattle.zonotope.specs.declared.fold.Folding.{Folding}
use Rattle.zonotope.specs.Forms.{standing}
use Rattle.zonotope.specs.Shape.{size, sizes}
use Rattle.zonotope.proofs.Counts.{listed-size, listed_counts, grown_is}
use Rattle.zonotope.specs.Grown.{sizes-next, sizes-take}
use Rattle.zonotope.proofs.StoredLimits.{entry-size}
use Rattle.zonotope.proofs.extent.extents.Goals as goal

pub grown-sums-requires : goal.grown-sums-requires
grown-sums-requires c =
    let f = c.args.folding.now in
    record { counts = λ i h. ((f.roomy i h).0, omega (arith, (f.roomy i h).1)); entries = λ i h. omega (arith, f.limited i h) }

pub loop-generator-init : goal.loop-generator-init
loop-generator-init c =
    let f = c.args.folding.now in
    c.grown-sums.ensures ∙ grown_is f.axis f.centre (λ i. size f.centre i + size f.axis i + 0) (λ i h. omega arith)

-- the sizes of the generators lie within the room
all-sizes : (f : Folding) {gs : List (List ℤ)} → gs ≡ standing f.generators → (i : ℕ) → i < 4 → size f.axis i + sizes gs i ≤ 2 ^ 50
all-sizes f e i h = omega (arith, (f.roomy i h).1, ap (λ (gs : List (List ℤ)). sizes gs i) e)

pub grown-total-requires : goal.grown-total-requires
grown-total-requires c =
    let f = c.args.folding.now in
    let gs = c.as_slice-generator-items.result.now in
    let k = c.loop-generator.generator-index in
    record {
      counts = listed_counts (λ i. size f.centre i + size f.axis i + sizes (take k gs) i) c.loop-generator.sums (2 ^ 61) c.loop-generator.invariant
          (λ i h. omega (arith, sizes-take gs k i, f.limited i h, all-sizes f c.as_slice-generator-items.ensures i h));
      entries = λ i h. omega (arith, entry-size gs k i, all-sizes f c.as_slice-generator-items.ensures i h);
    }

pub loop-generator-preserved : goal.loop-generator-preserved
loop-generator-preserved c =
    let f = c.args.folding.now in
    let gs = c.as_slice-generator-items.result.now in
    let k = c.loop-generator.generator-index in
    c.grown-total.ensures ∙ grown_is c.loop-generator.sums (get_or gs k []) (λ i. size f.centre i + size f.axis i + sizes (take (k + 1) gs) i)
    (λ i h. omega (arith, listed-size (λ i. size f.centre i + size f.axis i + sizes (take k gs) i) c.loop-generator.sums i c.loop-generator.invariant h, sizes-next gs k i c.loop-generator-test.true))

pub returns : goal.returns
returns c =
    let f = c.args.folding.now in
    let gs = c.as_slice-generator-items.result.now in
    c.loop-generator.invariant
    ∙ ap (λ (gs : List (List ℤ)). listed 4 (λ i. pos (size f.centre i + size f.axis i + sizes gs i))) (take_all c.loop-generator.generator-index gs c.loop-generator-test.false ∙ c.as_slice-generator-items.ensures)
