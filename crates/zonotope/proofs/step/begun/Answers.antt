use Rattle.std.proofs.Common.{◌≡◌, ℕ, List, length, ℤ, pos, refl, ap, ◌∙◌, rules}
use Rattle.arith.specs.Sums.{part, listed}
use Rattle.arith.proofs.Sums.{listed_is}
use Rattle.dynamics.specs.Values.{centre, width}
use Rattle.dynamics.proofs.Views.{width_is}
use Rattle.zonotope.proofs.StoredLimits.{standing_none}
use Rattle.zonotope.proofs.Same.{shape_same}
use Rattle.zonotope.proofs.step.begun.Goals as goal

pub returns : goal.returns
unfolding listed
returns c =
    let s = c.args.start.now in
    let p : length c.centres-centres.result ≡ 4 = search rules in
    let q : length c.radii-radii.result ≡ 4 = search rules in
    record {
      shape = shape_same
          (listed_is 4 (centre s) (pos 0) c.centres-centres.result p (λ i h. ap (λ (xs : List ℤ). part xs i) c.centres-centres.ensures))
          (listed_is 4 (λ (i : ℕ). pos (width s i)) (pos 0) c.radii-radii.result q (λ i h. ap (λ (xs : List ℤ). part xs i) c.radii-radii.ensures ∙ width_is s i h))
          (standing_none c.new.result c.new.ensures);
      spread = refl;
    }
