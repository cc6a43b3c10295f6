-- Numbers of 128 bits as a proof's goals show them, and sums of products that grow term by term.
use Rattle.std.proofs.Common.{◌≡◌, ℕ, zero, suc, ◌+◌, ◌*◌, ◌^◌, ◌≤◌, ℤ, ◌+ℤ◌, ◌*ℤ◌, nat_abs, IfSome, Some, None, Option, ap, ◌∙◌, arith, add-one, w64, SFits, to_z, of_z}
use borrow.Author.Differences.{ints}
use mir.Syntax.{w128}
use mir.ValLaws.{to_z-of_z}
use Rattle.std.specs.Option.{SomeIff}
use Rattle.arith.specs.Sums.{sum}
use Rattle.arith.proofs.Order.{abs-mul-le}

-- a number that was computed, passed or read
abbrev pub wide : ℤ → ℤ
wide z = to_z w128 (of_z w128 z)

pub wide_is : (z : ℤ) → SFits w128 z → wide z ≡ z
wide_is z f = to_z-of_z w128 z f

-- the value where there is one
pub is_as : (r : Option ℤ) (v w : ℤ) → IfSome r (λ z. z ≡ v) → v ≡ w → IfSome r (λ z. z ≡ w)
is_as None v w h e = tt
is_as (Some z) v w h e = h ∙ e

pub checked_as : (r : Option ℤ) (P : Type 0) (v w : ℤ) → SomeIff r P v → v ≡ w → IfSome r (λ z. z ≡ w)
checked_as None P v w h e = tt
checked_as (Some z) P v w h e = h.1 ∙ e

-- one term more
sum_last : (n : ℕ) (f : ℕ → ℤ) → sum (suc n) f ≡ sum n f +ℤ f n
unfolding sum
sum_last zero f = omega (arith, ints)
sum_last (suc n) f = ap (λ (z : ℤ). f 0 +ℤ z) (sum_last n (λ i. f (suc i))) ∙ regroup (f 0) (sum n (λ i. f (suc i))) (f (suc n))
  where
    regroup : (a b c : ℤ) → a +ℤ (b +ℤ c) ≡ (a +ℤ b) +ℤ c
    regroup a b c = omega (arith, ints)

pub sum_more : (n m : ℕ) (f : ℕ → ℤ) → m ≡ n + 1 → sum m f ≡ sum n f +ℤ f n
sum_more n m f e = ap (λ (k : ℕ). sum k f) (e ∙ add-one n) ∙ sum_last n f

-- a product of an entry of a direction and a number of 64 bits, and the sum of at most three such products before it
pub record Step (s p : ℤ) (n : ℕ) : Type 0 where
  pub product : SFits w128 p
  pub sum : SFits w128 (s +ℤ p)
  pub small : nat_abs (s +ℤ p) ≤ (n + 1) * 2 ^ 83

pub step : (s p l x : ℤ) (n : ℕ) → n ≤ 3 → nat_abs s ≤ n * 2 ^ 83 → p ≡ l *ℤ x → nat_abs l ≤ 2 ^ 20 → SFits w64 x → Step s p n
step s p l x n k h e a f = sized s p n k h (within (abs-mul-le l x (2 ^ 20) (2 ^ 63) a (size x f)))
  where
    size : (x : ℤ) → SFits w64 x → nat_abs x ≤ 2 ^ 63
    size x f = omega (arith, ints)

    within : nat_abs (l *ℤ x) ≤ 2 ^ 20 * 2 ^ 63 → nat_abs p ≤ 2 ^ 83
    within h = rw e h

    sized : (s p : ℤ) (n : ℕ) → n ≤ 3 → nat_abs s ≤ n * 2 ^ 83 → nat_abs p ≤ 2 ^ 83 → Step s p n
    sized s p n k h q = record { product = omega (arith, ints); sum = omega (arith, ints); small = omega (arith, ints) }
