use Rattle.std.proofs.Common.{◌≡◌, ℕ, ◌^◌, ◌<◌, ◌≤◌, Bool, true, List, ℤ, pos, Some, Option, sym, ap, ◌∙◌, arith}
use Rattle.arith.specs.Sums.{listed}
use Rattle.zonotope.specs.declared.fold.Folding.{Folding}
use Rattle.zonotope.specs.Shape.{extent}
use Rattle.zonotope.specs.Domain.{Form, bounds, narrow}
use Rattle.zonotope.specs.Foldings.{folding_shape}
use Rattle.zonotope.proofs.Counts.{listed-size}
use Rattle.zonotope.proofs.Same.{narrow-bounds, narrow_at, kept_true, kept_false}
use Rattle.zonotope.proofs.step.bounded.Goals as goal

module _ (f : Folding) {sums : List ℤ} {b : Bool} (e : sums ≡ listed 4 (λ i. pos (extent (folding_shape f) i))) (n : b ≡ narrow sums) where
  -- the test is that of the shape
  tested : b ≡ bounds (folding_shape f)
  tested = n ∙ narrow-bounds (folding_shape f) sums (λ i h. listed-size (extent (folding_shape f)) sums i e h)

  within : b ≡ true → (i : ℕ) → i < 4 → extent (folding_shape f) i ≤ 2 ^ 30
  within t i h = omega (arith, listed-size (extent (folding_shape f)) sums i e h, narrow_at sums (sym n ∙ t) i h)

pub returns-then-not-is_narrow : goal.returns-then-not-is_narrow
returns-then-not-is_narrow c =
    sym (kept_false (bounds (folding_shape c.args.folding.now)) _ (sym (tested c.args.folding.now c.extents.ensures c.is_narrow.ensures) ∙ c.if-not-is_narrow.true))

pub invariant_of-result : goal.invariant_of-result
invariant_of-result c =
    let f = c.args.folding.now in
    record { limited = λ i h. ((f.roomy i h).0, omega (arith, within f c.extents.ensures c.is_narrow.ensures c.if-not-is_narrow.false i h)) }

pub invariant_of-result-2 : goal.invariant_of-result-2
invariant_of-result-2 c = record { few = c.requires; limited = within c.args.folding.now c.extents.ensures c.is_narrow.ensures c.if-not-is_narrow.false }

pub returns : goal.returns
returns c =
    let z = folding_shape c.args.folding.now in
    let kept = λ (s : Option (List ℤ)). let f : Form = Some (record { shape = z; spread = s }) in f in
    ap kept c.narrow_spread.ensures
    ∙ sym (kept_true (bounds z) _ (sym (tested c.args.folding.now c.extents.ensures c.is_narrow.ensures) ∙ c.if-not-is_narrow.false))
