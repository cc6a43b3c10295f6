-- The laws of the scalar product.
use Rattle.std.proofs.Common.{◌≡◌, ℕ, ◌*◌, ◌<◌, ◌≤◌, [], ◌∷◌, ℤ, pos, ◌+ℤ◌, ◌*ℤ◌, nat_abs, sym, refl, ap, ◌∙◌, le_trans, mul_left_comm, arith}
use lib.IntN.{*ℤ-zero, *ℤ_comm}
use Rattle.arith.proofs.Ring
use Rattle.arith.proofs.Ring.{linear}
use Rattle.arith.proofs.Order.{abs-mul-le}
use Rattle.arith.proofs.Solver.{var, ◌:*◌, solve}
use Rattle.arith.specs.Sums.{sum}
use Rattle.arith.specs.Products.{dot, row_times, times_column, spanned}
use Rattle.arith.proofs.Sums.{sum_ext, sum-add, sum-mul, sum-zero, sum_swap, sum-abs, total-le, total-mul, total_size}

pub dot_ext : (l x y : ℕ → ℤ) → ((i : ℕ) → i < 4 → x i ≡ y i) → dot l x ≡ dot l y
dot_ext l x y h = sum_ext 4 (λ i. l i *ℤ x i) (λ i. l i *ℤ y i) (λ i k. ap (λ (z : ℤ). l i *ℤ z) (h i k))

pub dot-add : (l x y : ℕ → ℤ) → dot l (λ i. x i +ℤ y i) ≡ dot l x +ℤ dot l y
dot-add l x y =
    sum_ext 4 (λ i. l i *ℤ (x i +ℤ y i)) (λ i. l i *ℤ x i +ℤ l i *ℤ y i) (λ i h. Ring.mul-add (l i) (x i) (y i))
    ∙ sum-add 4 (λ i. l i *ℤ x i) (λ i. l i *ℤ y i)

pub dot-mul : (l : ℕ → ℤ) (k : ℤ) (x : ℕ → ℤ) → dot l (λ i. k *ℤ x i) ≡ k *ℤ dot l x
dot-mul l k x =
    sum_ext 4 (λ i. l i *ℤ (k *ℤ x i)) (λ i. k *ℤ (l i *ℤ x i)) (λ i h. Ring.mul_left_comm (l i) k (x i))
    ∙ sum-mul 4 k (λ i. l i *ℤ x i)

pub dot-zero : (l : ℕ → ℤ) → dot l (λ i. pos 0) ≡ pos 0
dot-zero l = sum_ext 4 (λ i. l i *ℤ pos 0) (λ i. pos 0) (λ i h. *ℤ-zero (l i)) ∙ sum-zero 4

-- a product with parts of bounded size
pub dot-size : (l x : ℕ → ℤ) (a : ℕ → ℕ) → ((i : ℕ) → i < 4 → nat_abs (x i) ≤ a i) → nat_abs (dot l x) ≤ spanned l a
dot-size l x a h =
    let s = sum-abs 4 (λ i. l i *ℤ x i) in
    let t = total-le 4 (λ i. nat_abs (l i *ℤ x i)) (λ i. nat_abs (l i) * a i) (λ i k. abs-mul-le (l i) (x i) (nat_abs (l i)) (a i) (omega arith) (h i k)) in
    omega arith

pub spanned-mul : (l : ℕ → ℤ) (n : ℕ) (a : ℕ → ℕ) → spanned l (λ i. n * a i) ≡ n * spanned l a
spanned-mul l n a = simp (mul_left_comm) (total-mul 4 n (λ i. nat_abs (l i) * a i))

-- n products of numbers of bounded size
pub sum-size : (n : ℕ) (f x : ℕ → ℤ) (a b : ℕ) → ((j : ℕ) → j < n → nat_abs (f j) ≤ a) → ((j : ℕ) → j < n → nat_abs (x j) ≤ b)
    → nat_abs (sum n (λ j. f j *ℤ x j)) ≤ n * (a * b)
sum-size n f x a b p q =
    le_trans (sum-abs n (λ j. f j *ℤ x j)) (total_size n (λ j. nat_abs (f j *ℤ x j)) (a * b) (λ j h. abs-mul-le (f j) (x j) a b (p j h) (q j h)))

-- row (matrix column) = (row matrix) column, for a matrix of n columns
pub dot-through : (n : ℕ) (l : ℕ → ℤ) (a : ℕ → ℕ → ℤ) (x : ℕ → ℤ) → dot l (times_column n a x) ≡ sum n (λ j. row_times l a j *ℤ x j)
dot-through n l a x =
    sum_ext 4 (λ i. l i *ℤ sum n (λ j. a i j *ℤ x j)) (λ i. sum n (λ j. x j *ℤ (l i *ℤ a i j)))
    (λ i h. sym (sum-mul n (l i) (λ j. a i j *ℤ x j)) ∙ sum_ext n (λ j. l i *ℤ (a i j *ℤ x j)) (λ j. x j *ℤ (l i *ℤ a i j)) (λ j k. turn (l i) (a i j) (x j)))
    ∙ sum_swap 4 n (λ i j. x j *ℤ (l i *ℤ a i j))
    ∙ sum_ext n (λ j. sum 4 (λ i. x j *ℤ (l i *ℤ a i j))) (λ j. sum 4 (λ i. l i *ℤ a i j) *ℤ x j)
    (λ j k. sum-mul 4 (x j) (λ i. l i *ℤ a i j) ∙ *ℤ_comm (x j) (sum 4 (λ i. l i *ℤ a i j)))
  where
    turn : (l a x : ℤ) → l *ℤ (a *ℤ x) ≡ x *ℤ (l *ℤ a)
    turn l a x = solve (l ∷ (a ∷ (x ∷ []))) (var 0 :* (var 1 :* var 2)) (var 2 :* (var 0 :* var 1)) refl
