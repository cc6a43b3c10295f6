-- Shapes with the same parts are the same; and tests that agree.
use Rattle.std.proofs.Common.{◌≡◌, ℕ, zero, suc, ◌^◌, ◌<◌, ◌≤◌, Bool, true, false, leb, List, ℤ, Some, None, refl, ap, ap₂, arith, leb-true}
use Rattle.arith.specs.Sums.{every}
use Rattle.arith.proofs.Sums.{every_at}
use Rattle.zonotope.specs.Shape.{Shape, size, extent}
use Rattle.zonotope.specs.Domain.{kept_if, bounds, narrow}

pub shape_same : {c c' a a' : List ℤ} {gs gs' : List (List ℤ)} → c ≡ c' → a ≡ a' → gs ≡ gs' → ◌≡◌ {A = Shape} (record { centre = c; axis = a; generators = gs }) (record { centre = c'; axis = a'; generators = gs' })
shape_same p q r = λ i. record { centre = p i; axis = q i; generators = r i }

every_ext : (n : ℕ) (p q : ℕ → Bool) → ((i : ℕ) → i < n → p i ≡ q i) → every n p ≡ every n q
unfolding every
every_ext zero p q h = refl
every_ext (suc n) p q h =
    ap₂ (λ (a b : Bool). elim a [ true ↦ b | false ↦ false ]) (h 0 (omega arith)) (every_ext n (λ i. p (suc i)) (λ i. q (suc i)) (λ i k. h (suc i) (omega arith)))

-- the size test on the sums of a shape
pub narrow-bounds : (z : Shape) (s : List ℤ) → ((i : ℕ) → i < 4 → size s i ≡ extent z i) → narrow s ≡ bounds z
narrow-bounds z s h = every_ext 4 (λ i. leb (size s i) (2 ^ 30)) (λ i. leb (extent z i) (2 ^ 30)) (λ i k. ap (λ (n : ℕ). leb n (2 ^ 30)) (h i k))

pub narrow_at : (s : List ℤ) → narrow s ≡ true → (i : ℕ) → i < 4 → size s i ≤ 2 ^ 30
narrow_at s e i h = leb-true (size s i) (2 ^ 30) (every_at 4 (λ i. leb (size s i) (2 ^ 30)) e i h)

-- what a test keeps
pub kept_true : {A : Type 0} (b : Bool) (a : A) → b ≡ true → kept_if b a ≡ Some a
kept_true b a e = ap (λ (c : Bool). kept_if c a) e

pub kept_false : {A : Type 0} (b : Bool) (a : A) → b ≡ false → kept_if b a ≡ None
kept_false b a e = ap (λ (c : Bool). kept_if c a) e
