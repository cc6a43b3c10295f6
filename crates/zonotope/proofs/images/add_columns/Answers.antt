use Rattle.std.proofs.Common.{ℕ, ◌*◌, ◌^◌, ◌<◌, replicate, pos, ◌*ℤ◌, sym, ◌∙◌, append-nil, arith, w64, SFits, rules}
use Rattle.std.proofs.lemmas.List.{get_or-replicate, length-replicate}
use Rattle.arith.specs.Sums.{part, entry, listed}
use Rattle.arith.proofs.Bits.{back_is}
use Rattle.zonotope.specs.Shape.{size}
use Rattle.zonotope.specs.Spans.{count_is}
use Rattle.zonotope.specs.Forms.{standing}
use Rattle.zonotope.specs.Grown.{listed_pushed}
use Rattle.zonotope.proofs.ImageLimits.{arm_image}
use Rattle.zonotope.proofs.images.add_columns.Goals as goal

pub loop-j-init : goal.loop-j-init
unfolding listed
loop-j-init g c = (sym (append-nil (standing c.args.images.now)), omega arith)

pub loop-j-preserved : goal.loop-j-preserved
loop-j-preserved g c =
    let n = g.row.N in
    let j = c.loop-j.j in
    let h = c.loop-j-test.true in
    let a = c.args.matrix in
    let k = c.args.counts in
    let f : SFits w64 (part k j) = search rules in
    let fits : n * (2 ^ 20 * 2 ^ 30) < 2 ^ 63 = omega (arith, c.requires.room) in
    let e = arm_image n j (replicate n (pos 0)) _ (length-replicate n (pos 0)) (λ i p. get_or-replicate n i (pos 0) (pos 0) p) h a (size k j) (2 ^ 30)
    c.requires.matrix (back_is (part k j) f ∙ count_is (part k j) (c.requires.counts j h).0) (c.requires.counts j h).1 fits c.times_column.ensures.exact in (
      listed_pushed j (λ (j : ℕ). listed 4 (λ i. pos (size k j) *ℤ entry a i j)) (standing c.args.images.now) _ c.push.ensures.list c.loop-j.invariant.0 e,
      omega (arith, c.push.ensures.len, c.loop-j.invariant.1),
    )
