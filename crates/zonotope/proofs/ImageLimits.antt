-- The images of vectors of bounded size, as the kernel computes them.
use Rattle.std.proofs.Common.{◌≡◌, ℕ, ◌*◌, ◌^◌, ◌<◌, ◌≤◌, cond, eqb, List, length, set, ℤ, pos, ◌*ℤ◌, nat_abs, sym, ap, ◌∙◌, subst, arith, lit<, w64, SFits, eq-eqb, ne_eqb}
use lib.IntN.{*ℤ_comm}
use Rattle.std.proofs.lemmas.Bool.{cond-true, cond-false}
use Rattle.arith.specs.Sums.{part, entry, listed}
use Rattle.arith.specs.Products.{times_column}
use Rattle.arith.proofs.Bits.{fits_abs}
use Rattle.arith.proofs.Bridge.{listed_ext}
use Rattle.arith.proofs.Dots.{sum-size}
use Rattle.arith.proofs.Sums.{sum_ext, sum_single, set_at}
use Rattle.dynamics.specs.declared.model.Model.{Model}
use Rattle.dynamics.specs.Limits.{MatrixLimits}
use Rattle.dynamics.specs.Values.{loop}

-- each entry of a product with a vector of bounded size
pub column-size : (n : ℕ) (a : List (List ℤ)) (x : ℕ → ℤ) (b : ℕ) → MatrixLimits n a → ((j : ℕ) → j < n → nat_abs (x j) ≤ b) → (i : ℕ) → i < 4
    → nat_abs (times_column n (entry a) x i) ≤ n * (2 ^ 20 * b)
column-size n a x b h k i q = sum-size n (entry a i) x (2 ^ 20) b (λ j p. h i j q p) k

-- a product that is exact where it fits, and fits
pub column_is : (n : ℕ) (a : List (List ℤ)) (x : ℕ → ℤ) (b : ℕ) {r : List ℤ} → MatrixLimits n a → ((j : ℕ) → j < n → nat_abs (x j) ≤ b) → n * (2 ^ 20 * b) < 2 ^ 63
    → (((i : ℕ) → i < 4 → SFits w64 (times_column n (entry a) x i)) → r ≡ listed 4 (times_column n (entry a) x)) → r ≡ listed 4 (times_column n (entry a) x)
column_is n a x b h k l e = e (λ i q. fits_abs (times_column n (entry a) x i) (n * (2 ^ 20 * b)) (column-size n a x b h k i q) l)

-- the same over a model's own matrix
pub loop-column_is : (m : Model) (x : List ℤ) {a : List (List ℤ)} {r : List ℤ} → ((j : ℕ) → j < 4 → nat_abs (part x j) ≤ 2 ^ 30) → a ≡ m.matrix
    → (((i : ℕ) → i < 4 → SFits w64 (times_column 4 (entry a) (part x) i)) → r ≡ listed 4 (times_column 4 (entry a) (part x))) → r ≡ listed 4 (times_column 4 (loop m) (part x))
loop-column_is m x {a} h e f =
    column_is 4 a (part x) (2 ^ 30) (subst (MatrixLimits 4) (sym e) m.entered) h (lit< tt) f
    ∙ ap (λ (xs : List (List ℤ)). listed 4 (times_column 4 (entry xs) (part x))) e

-- ---- a vector of zeros but one
module _ (n j : ℕ) (zs : List ℤ) (v : ℤ) (long : length zs ≡ n) (zeros : (k : ℕ) → k < n → part zs k ≡ pos 0) (inside : j < n) where
  arm_at : (k : ℕ) → k < n → part (set zs j v) k ≡ cond (eqb k j) v (pos 0)
  arm_at k h =
      set_at zs j k v (λ (z : ℤ). z ≡ cond (eqb k j) v (pos 0)) (omega arith)
      (λ e. sym (cond-true (eqb k j) v (pos 0) (eq-eqb k j (sym e)))) (λ ne. zeros k h ∙ sym (cond-false (eqb k j) v (pos 0) (ne_eqb k j ne)))

  arm_size : (b : ℕ) → nat_abs v ≤ b → (k : ℕ) → k < n → nat_abs (part (set zs j v) k) ≤ b
  arm_size b h k q = set_at zs j k v (λ (z : ℤ). nat_abs z ≤ b) (omega arith) (λ e. h) (λ ne. rw (zeros k q) (omega arith))

  -- it picks one column
  arm_column : (a : ℕ → ℕ → ℤ) (i : ℕ) → times_column n a (part (set zs j v)) i ≡ v *ℤ a i j
  arm_column a i =
      sum_ext n (λ k. a i k *ℤ part (set zs j v) k) (λ k. cond (eqb k j) v (pos 0) *ℤ a i k) (λ k h. ap (λ (z : ℤ). a i k *ℤ z) (arm_at k h) ∙ *ℤ_comm (a i k) (cond (eqb k j) v (pos 0)))
      ∙ sum_single n j v (a i) inside

  pub arm_image : (a : List (List ℤ)) (k b : ℕ) {r : List ℤ} → MatrixLimits n a → v ≡ pos k → k ≤ b → n * (2 ^ 20 * b) < 2 ^ 63
      → (((i : ℕ) → i < 4 → SFits w64 (times_column n (entry a) (part (set zs j v)) i)) → r ≡ listed 4 (times_column n (entry a) (part (set zs j v)))) → r ≡ listed 4 (λ i. pos k *ℤ entry a i j)
  arm_image a k b h e s l x =
      column_is n a (part (set zs j v)) b h (arm_size b (rw e s)) l x
      ∙ listed_ext 4 (times_column n (entry a) (part (set zs j v))) (λ i. pos k *ℤ entry a i j) (λ i q. arm_column (entry a) i ∙ ap (λ (z : ℤ). z *ℤ entry a i j) e)
