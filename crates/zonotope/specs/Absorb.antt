-- What the generators leave over, the axis part takes up.
use Rattle.std.specs.Prelude.{◌≡◌, ℕ, zero, suc, ◌*◌, ◌<◌, ◌≤◌, List, [], ◌∷◌, map, ℤ, pos, ◌+ℤ◌, ◌-ℤ◌, ◌*ℤ◌, unsigned_abs, refl}
use Rattle.std.proofs.Common.{sym, ap, ap₂, ◌∙◌, mul-pos, mul_assoc, mul_comm, arith}
use Rattle.std.proofs.Math.IntN.{*ℤ-zero}
use Rattle.std.proofs.lemmas.Int.{ints}
use Rattle.arith.proofs.Ring
use Rattle.arith.proofs.Order.{abs-mul-le}
use Rattle.arith.proofs.Solver.{var, ◌:+◌, ◌:*◌, ◌:-◌, solve}
use Rattle.arith.specs.Sums.{part}
use Rattle.zonotope.specs.Shape.{Shape, size, Within, within_none, within_more, combined, Held}

-- a number, or 1 for 0
abbrev pub lifted : ℕ → ℕ
lifted zero = 1
lifted (suc n) = suc n

pub lifted-pos : (a : ℕ) → 1 ≤ lifted a
lifted-pos zero = omega arith
lifted-pos (suc a) = omega arith

-- the product of the first n, and of all of them but number i
unfoldable pub product : ℕ → (ℕ → ℕ) → ℕ
product zero f = 1
product (suc n) f = lifted (f 0) * product n (λ i. f (suc i))

unfoldable pub cofactor : ℕ → (ℕ → ℕ) → ℕ → ℕ
cofactor zero f i = 1
cofactor (suc n) f zero = product n (λ i. f (suc i))
cofactor (suc n) f (suc i) = lifted (f 0) * cofactor n (λ i. f (suc i)) i

pub product-pos : (n : ℕ) (f : ℕ → ℕ) → 1 ≤ product n f
unfolding product
product-pos zero f = omega arith
product-pos (suc n) f = mul-pos (lifted-pos (f 0)) (product-pos n (λ i. f (suc i)))

pub product_is : (n : ℕ) (f : ℕ → ℕ) (i : ℕ) → i < n → product n f ≡ cofactor n f i * lifted (f i)
unfolding product cofactor
product_is zero f i h = absurd (omega arith)
product_is (suc n) f zero h = mul_comm (lifted (f 0)) (product n (λ i. f (suc i)))
product_is (suc n) f (suc i) h =
    ap (λ (z : ℕ). lifted (f 0) * z) (product_is n (λ i. f (suc i)) i (omega arith))
    ∙ sym (mul_assoc (lifted (f 0)) (cofactor n (λ i. f (suc i)) i) (lifted (f (suc i))))

-- a share of a: w q / (q a) where a is not 0
pub record Share (n a p q : ℕ) (w : ℤ) : Type 0 where
  pub is : w *ℤ pos q *ℤ pos a ≡ pos p *ℤ w
  pub small : unsigned_abs (w *ℤ pos q) ≤ n * p

share_of : (n a q : ℕ) (w : ℤ) → unsigned_abs w ≤ n * a → Share n a (q * lifted a) q w
share_of n zero q w h =
    let e : w ≡ pos 0 = omega (arith, ints) in
    rw e (record { is = *ℤ-zero (pos 0 *ℤ pos q) ∙ sym (*ℤ-zero (pos (q * 1))); small = omega arith })
share_of n (suc a) q w h =
    record {
      is = solve (w ∷ (pos q ∷ (pos (suc a) ∷ []))) (var 0 :* var 1 :* var 2) (var 1 :* var 2 :* var 0) refl;
      small = rw (mul_comm q (suc a)) (rw (← mul_assoc n (suc a) q) (abs-mul-le w (pos q) (n * suc a) q h (omega arith)));
    }

pub share : (n a p q : ℕ) (w : ℤ) → p ≡ q * lifted a → unsigned_abs w ≤ n * a → Share n a p q w
share n a p q w e h = rw e (share_of n a q w h)

pub combined_scaled : (k : ℤ) (bs : List ℤ) (gs : List (List ℤ)) (i : ℕ) → combined (map (λ (b : ℤ). k *ℤ b) bs) gs i ≡ k *ℤ combined bs gs i
combined_scaled k [] gs i = sym (*ℤ-zero k)
combined_scaled k (b ∷ bs) [] i = sym (*ℤ-zero k)
combined_scaled k (b ∷ bs) (g ∷ gs) i =
    ap₂ ◌+ℤ◌ (Ring.mul_assoc k b (part g i)) (combined_scaled k bs gs i) ∙ sym (Ring.mul-add k (b *ℤ part g i) (combined bs gs i))

pub within_scaled : (n k : ℕ) {bs : List ℤ} {gs : List (List ℤ)} → Within n bs gs → Within (n * k) (map (λ (b : ℤ). pos k *ℤ b) bs) gs
within_scaled n k within_none = within_none
within_scaled n k (within_more {b = b} h r) = within_more (rw (mul_comm n k) (abs-mul-le (pos k) b k n (omega arith) h)) (within_scaled n k r)

regroup : (n p x c s : ℤ) → n *ℤ p *ℤ x ≡ n *ℤ p *ℤ c +ℤ p *ℤ (n *ℤ x -ℤ n *ℤ c -ℤ s) +ℤ p *ℤ s
regroup n p x c s =
    solve (n ∷ (p ∷ (x ∷ (c ∷ (s ∷ []))))) (var 0 :* var 1 :* var 2)
    (var 0 :* var 1 :* var 3 :+ var 1 :* (var 0 :* var 2 :- var 0 :* var 3 :- var 4) :+ var 1 :* var 4) refl

pub absorbing : (z : Shape) (x : ℕ → ℤ) (n : ℕ) (bs : List ℤ) → 1 ≤ n → Within n bs z.generators
    → ((i : ℕ) → i < 4 → unsigned_abs (pos n *ℤ x i -ℤ pos n *ℤ part z.centre i -ℤ combined bs z.generators i) ≤ n * size z.axis i)
    → Held z x
absorbing z x n bs h v k =
    record {
      scale = n * whole;
      some = mul-pos h (product-pos 4 a);
      axial = λ i. left i *ℤ pos (cofactor 4 a i);
      shares = map (λ (b : ℤ). pos whole *ℤ b) bs;
      axial_within = λ i j. (taken i j).small;
      shares_within = within_scaled n whole v;
      at = λ i j. regroup (pos n) (pos whole) (x i) (part z.centre i) (combined bs z.generators i)
          ∙ ap₂ (λ (s t : ℤ). pos n *ℤ pos whole *ℤ part z.centre i +ℤ s +ℤ t) (sym (taken i j).is) (sym (combined_scaled (pos whole) bs z.generators i));
    }
  where
    a : ℕ → ℕ
    a = size z.axis

    whole : ℕ
    whole = product 4 a

    left : ℕ → ℤ
    left i = pos n *ℤ x i -ℤ pos n *ℤ part z.centre i -ℤ combined bs z.generators i

    taken : (i : ℕ) → i < 4 → Share n (a i) whole (cofactor 4 a i) (left i)
    taken i j = share n (a i) whole (cofactor 4 a i) (left i) (product_is 4 a i j) (k i j)
