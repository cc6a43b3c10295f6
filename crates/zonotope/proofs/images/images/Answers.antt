use Rattle.std.proofs.Common.{◌≡◌, ◌^◌, List, ◌++◌, map, ℤ, sym, ap, ◌∙◌, subst, ap₂, append_assoc, le_trans, arith, lit≤}
use Rattle.arith.specs.Sums.{part, entry}
use Rattle.dynamics.specs.Limits.{MatrixLimits}
use Rattle.dynamics.specs.Values.{loop, push, radius}
use Rattle.dynamics.proofs.Views.{radius-size}
use Rattle.zonotope.specs.Shape.{size}
use Rattle.zonotope.specs.Advance.{columns}
use Rattle.zonotope.specs.Advance
use Rattle.zonotope.specs.Ranges.{CountsOf}
use Rattle.zonotope.specs.Forms.{standing}
use Rattle.zonotope.proofs.images.images.Goals as goal

pub add_columns-requires : goal.add_columns-requires
add_columns-requires c = (omega arith, (omega arith, (omega (arith, c.moved-images.ensures.few), (subst (MatrixLimits 4) (sym c.matrix.ensures) c.args.model.now.entered, c.args.stored.now.axis.limited))))

pub add_columns-requires-2 : goal.add_columns-requires-2
add_columns-requires-2 c =
    let m = c.args.model.now in
    let counts : CountsOf 2 (2 ^ 30) c.radii.result = λ j h. rw (ap (λ (xs : List ℤ). part xs j) c.radii.ensures) (m.calm.0 j h, le_trans (radius-size m j h) (lit≤ tt)) in
    (omega arith, (omega arith, (omega (arith, c.moved-images.ensures.few, c.add_columns.ensures.len), (subst (MatrixLimits 2) (sym c.gains.ensures) m.gained, counts))))

-- the three kinds, one after the other
joined : {X : Type 0} (a b c d e f : List X) → a ≡ b ++ c → b ≡ d ++ e → d ≡ f → a ≡ f ++ (e ++ c)
joined a b c d e f p q r = p ∙ ap (λ xs. xs ++ c) (q ∙ ap (λ xs. xs ++ e) r) ∙ append_assoc f e c

pub returns : goal.returns
unfolding Advance.images
returns c =
    let m = c.args.model.now in
    let t = c.args.stored.now in
    joined _ _ (columns 2 (push m) (radius m)) _ (columns 4 (loop m) (size t.axis.parts)) (map (Advance.moved (loop m)) (standing t.generators))
    (c.add_columns-2.ensures.list ∙ ap₂ (λ (a : List (List ℤ)) (r : List ℤ). standing c.add_columns.new.images ++ columns 2 (entry a) (size r)) c.gains.ensures c.radii.ensures)
    (c.add_columns.ensures.list ∙ ap (λ (a : List (List ℤ)). standing c.moved-images.result ++ columns 4 (entry a) (size t.axis.parts)) c.matrix.ensures)
    c.moved-images.ensures.list
