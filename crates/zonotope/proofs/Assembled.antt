-- The shape before folding, put together from rounded lists.
use Rattle.std.proofs.Common.{◌≡◌, ℕ, ◌+◌, ◌/◌, List, ℤ, pos, ap, ◌∙◌, ap₂}
use Rattle.arith.specs.Rounding.{residue}
use Rattle.arith.specs.Sums.{listed, part}
use Rattle.arith.proofs.Bridge.{listed_ext}
use Rattle.arith.proofs.Sums.{listed_at}
use Rattle.dynamics.specs.declared.model.Model.{Model}
use Rattle.dynamics.specs.Rows.{allowance}
use Rattle.zonotope.specs.Shape.{Shape, size}
use Rattle.zonotope.specs.Advance.{images, middle_image, residues, remainder, new_axis}
use Rattle.zonotope.proofs.Counts.{listed-size}

-- a function of each entry of a list that was written from the index
pub mapped : (f : ℕ → ℤ) (h : ℤ → ℤ) (u : List ℤ) {v : List ℤ} → u ≡ listed 4 f → v ≡ listed 4 (λ i. h (part u i)) → v ≡ listed 4 (λ i. h (f i))
mapped f h u e p = p ∙ listed_ext 4 (λ i. h (part u i)) (λ i. h (f i)) (λ i q. ap h (ap (λ (xs : List ℤ). part xs i) e ∙ listed_at 4 f (pos 0) i q))

pub remainder_is : (m : Model) (z : Shape) (c v : List ℤ) {r : List ℤ} → c ≡ listed 4 (λ i. pos (residue (middle_image m z i))) → v ≡ listed 4 (λ i. pos (residues (images m z) i))
    → r ≡ listed 4 (λ i. pos (size c i + size v i + allowance m i)) → r ≡ listed 4 (λ i. pos (remainder m z i))
remainder_is m z c v p q e =
    e ∙ listed_ext 4 (λ i. pos (size c i + size v i + allowance m i)) (λ i. pos (remainder m z i))
    (λ i h. ap pos (sum i (listed-size (λ i. residue (middle_image m z i)) c i p h) (listed-size (residues (images m z)) v i q h)))
  where
    sum : (i : ℕ) → size c i ≡ residue (middle_image m z i) → size v i ≡ residues (images m z) i → size c i + size v i + allowance m i ≡ remainder m z i
    sum i a b = ap₂ (λ (s t : ℕ). s + t + allowance m i) a b

pub axis_is : (m : Model) (z : Shape) (r : List ℤ) {a : List ℤ} → r ≡ listed 4 (λ i. pos (remainder m z i)) → a ≡ listed 4 (λ i. pos ((size r i + 4095) / 4096)) → a ≡ listed 4 (λ i. pos (new_axis m z i))
axis_is m z r p e =
    e ∙ listed_ext 4 (λ i. pos ((size r i + 4095) / 4096)) (λ i. pos (new_axis m z i)) (λ i h. ap (λ (n : ℕ). pos ((n + 4095) / 4096)) (listed-size (remainder m z) r i p h))
