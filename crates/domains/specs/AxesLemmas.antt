-- The signed axes as directions.
use Rattle.std.specs.Prelude.{◌≡◌, ℕ, ◌*◌, ◌/◌, ◌%◌, ◌<◌, ◌≤◌, Bool, true, false, cond, ℤ, pos, negsuc, ◌*ℤ◌, neg_ℤ, ◌==◌, unsigned_abs}
use Rattle.std.proofs.Common.{◌∙◌, arith}
use mathlib.Core.HLevel.{is_prop→PathP}
use denote.Struct.Props.{props}
use Rattle.std.proofs.lemmas.Int.{ints}
use Rattle.arith.specs.Products.{dot, spanned}
use Rattle.arith.proofs.Sums.{sum_single, total_single}
use Rattle.dynamics.specs.Values.{State}
use Rattle.domains.specs.declared.axis.SignedAxis.{SignedAxis}
use Rattle.domains.specs.Axes.{signed, unit}

sign : Bool → ℤ
sign b = cond b (pos 1) (negsuc 0)

sign_times : (b : Bool) (z : ℤ) → sign b *ℤ z ≡ cond b z (neg_ℤ z)
unfolding sign
sign_times true z = omega (arith, ints)
sign_times false z = omega (arith, ints)

sign_size : (b : Bool) (n : ℕ) → unsigned_abs (sign b) * n ≡ n
unfolding sign
sign_size true n = omega arith
sign_size false n = omega arith

-- a signed part is the product with the axis's direction
pub unit-dot : (x : State) (a : ℕ) → a < 8 → dot (unit a) x ≡ signed a x
unfolding sign
unit-dot x a h = sum_single 4 (a / 2) (sign (a % 2 == 0)) x (omega arith) ∙ sign_times (a % 2 == 0) (x (a / 2))

pub unit-spanned : (f : ℕ → ℕ) (a : ℕ) → a < 8 → spanned (unit a) f ≡ f (a / 2)
unfolding sign
unit-spanned f a h = total_single 4 (a / 2) (sign (a % 2 == 0)) f (omega arith) ∙ sign_size (a % 2 == 0) (f (a / 2))

pub unit_size : (a i : ℕ) → unsigned_abs (unit a i) ≤ 1
unit_size a i = go (i == a / 2) (a % 2 == 0)
  where
    go : (b c : Bool) → unsigned_abs (cond b (cond c (pos 1) (negsuc 0)) (pos 0)) ≤ 1
    go true true = omega arith
    go true false = omega arith
    go false c = omega arith

-- two axes of one number are the same
pub axis_same : (a b : SignedAxis) → a.index ≡ b.index → a ≡ b
axis_same a b p = λ i. record { index = p i; eight = is_prop→PathP (λ j. p j < 8) (λ j. hlevel props) a.eight b.eight i }
