-- A whole row rounds nothing away: a permitted part lies within its row's allowance.
use Rattle.std.proofs.Common.{◌≡◌, ℕ, suc, ◌%◌, ◌<◌, ◌≤◌, Bool, true, false, ◌&&◌, ℤ, pos, negsuc, ◌-ℤ◌, ◌*ℤ◌, nat_abs, refl, ap, ◌∙◌, arith, eqb-true}
use borrow.Author.Differences.{ints}
use Rattle.arith.specs.Rounding.{floored}
use Rattle.arith.proofs.Ring.{mul_assoc}
use Rattle.arith.specs.Sums.{sum, every}
use Rattle.arith.proofs.Sums.{sum_ext, sum-mul, every_at}
use Rattle.dynamics.specs.declared.model.Model.{Model}
use Rattle.dynamics.specs.Values.{State, loop, push}
use Rattle.dynamics.specs.Runs.{image}
use Rattle.dynamics.specs.Rows.{multiple, whole, allowed, allowance}

multiple_is : (z : ℤ) → multiple z ≡ true → z ≡ pos 4096 *ℤ floored z
multiple_is (pos n) e = omega (arith, ints, eqb-true (n % 4096) 0 e)
multiple_is (negsuc n) e = omega (arith, ints, eqb-true (suc n % 4096) 0 e)

-- a sum of multiples is one
multiples : (n : ℕ) (f x : ℕ → ℤ) → every n (λ j. multiple (f j)) ≡ true → sum n (λ j. f j *ℤ x j) ≡ pos 4096 *ℤ sum n (λ j. floored (f j) *ℤ x j)
multiples n f x e =
    sum_ext n (λ j. f j *ℤ x j) (λ j. pos 4096 *ℤ (floored (f j) *ℤ x j))
    (λ j h. ap (λ (z : ℤ). z *ℤ x j) (multiple_is (f j) (every_at n (λ j. multiple (f j)) e j h)) ∙ mul_assoc (pos 4096) (floored (f j)) (x j))
    ∙ sum-mul n (pos 4096) (λ j. floored (f j) *ℤ x j)

both : (a b : Bool) → (a && b) ≡ true → (a ≡ true) × (b ≡ true)
both true b e = (refl, e)
both false b e = (cc, cc)

pub rounding : (m : Model) (x : State) (d : ℕ → ℤ) (i : ℕ) (y : ℤ) → nat_abs (pos 4096 *ℤ y -ℤ image m x d i) < 4096 → nat_abs (pos 4096 *ℤ y -ℤ image m x d i) ≤ allowance m i
rounding m x d i y h = go (whole m i) refl
  where
    go : (b : Bool) → whole m i ≡ b → nat_abs (pos 4096 *ℤ y -ℤ image m x d i) ≤ allowed b
    go false e = omega arith
    go true e =
        let t = both (every 4 (λ j. multiple (loop m i j))) (every 2 (λ j. multiple (push m i j))) e in
        let e1 = multiples 4 (loop m i) x t.0 in
        let e2 = multiples 2 (push m i) d t.1 in
        omega (arith, ints)
