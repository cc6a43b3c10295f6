use Rattle.std.proofs.Common.{◌≡◌, ℕ, ◌*◌, ◌^◌, ◌<◌, ◌≤◌, List, ℤ, pos, ◌+ℤ◌, nat_abs, sym, ap, ◌∙◌, subst, ap₂, le_trans, lit<, lit≤}
use Rattle.arith.specs.Sums.{part, entry, listed}
use Rattle.arith.specs.Products.{times_column}
use Rattle.arith.proofs.Bridge.{listed_ext}
use Rattle.arith.proofs.Sums.{listed_at}
use Rattle.dynamics.specs.Values.{loop, push, middle}
use Rattle.dynamics.specs.Runs.{image}
use Rattle.dynamics.specs.Limits.{MatrixLimits}
use Rattle.dynamics.proofs.Views.{middle-size}
use Rattle.zonotope.specs.Ranges.{Entries}
use Rattle.zonotope.proofs.Counts.{listed-entries}
use Rattle.zonotope.proofs.ImageLimits.{column-size, column_is, loop-column_is}
use Rattle.zonotope.proofs.StoredLimits.{stored_centre}
use Rattle.zonotope.proofs.images.middle_image.Goals as goal
use Rattle.zonotope.proofs.images.middle_image.Goals.{After-times_column-2}

-- the same of a list that is known to be so written
written-entries : (f : ℕ → ℤ) (xs : List ℤ) (n b : ℕ) → xs ≡ listed 4 f → ((i : ℕ) → i < 4 → nat_abs (f i) ≤ n) → n ≤ b → Entries b xs
written-entries f xs n b e h k = subst (Entries b) (sym e) (λ i q. le_trans (listed-entries f n h i q) k)

-- the two products, over the model's own matrices
by_loop : (c : After-times_column-2) → c.times_column.result ≡ listed 4 (times_column 4 (loop c.args.model.now) (part c.args.stored.now.centre))
by_loop c = loop-column_is c.args.model.now c.args.stored.now.centre (stored_centre c.args.stored.now) c.matrix.ensures c.times_column.ensures.exact

by_gusts : (c : After-times_column-2) → c.times_column-2.result ≡ listed 4 (times_column 2 (push c.args.model.now) (middle c.args.model.now))
by_gusts c =
    let m = c.args.model.now in
    let b = c.gains.result in
    let d = c.centres.result in
    column_is 2 b (part d) (2 ^ 24) (subst (MatrixLimits 2) (sym c.gains.ensures) m.gained)
    (λ j h. subst (λ (xs : List ℤ). nat_abs (part xs j) ≤ 2 ^ 24) (sym c.centres.ensures) (middle-size m j h)) (lit< tt) c.times_column-2.ensures.exact
    ∙ ap₂ (λ (xs : List (List ℤ)) (ys : List ℤ). listed 4 (times_column 2 (entry xs) (part ys))) c.gains.ensures c.centres.ensures

pub sum-requires : goal.sum-requires
sum-requires c =
    let m = c.args.model.now in
    record {
      first = written-entries (times_column 4 (loop m) (part c.args.stored.now.centre)) c.times_column.result (4 * (2 ^ 20 * 2 ^ 30)) (2 ^ 61) (by_loop c)
          (column-size 4 m.matrix (part c.args.stored.now.centre) (2 ^ 30) m.entered (stored_centre c.args.stored.now)) (lit≤ tt);
      second = written-entries (times_column 2 (push m) (middle m)) c.times_column-2.result (2 * (2 ^ 20 * 2 ^ 24)) (2 ^ 61) (by_gusts c)
          (column-size 2 m.gains (middle m) (2 ^ 24) m.gained (middle-size m)) (lit≤ tt);
    }

pub returns : goal.returns
returns c =
    let m = c.args.model.now in
    let k = (goal.at.returns c).After-times_column-2 in
    c.sum.ensures
    ∙ listed_ext 4 (λ i. part c.times_column.result i +ℤ part c.times_column-2.result i) (image m (part c.args.stored.now.centre) (middle m))
    (λ i h. ap₂ ◌+ℤ◌
    (ap (λ (xs : List ℤ). part xs i) (by_loop k) ∙ listed_at 4 (times_column 4 (loop m) (part c.args.stored.now.centre)) (pos 0) i h)
    (ap (λ (xs : List ℤ). part xs i) (by_gusts k) ∙ listed_at 4 (times_column 2 (push m) (middle m)) (pos 0) i h))
