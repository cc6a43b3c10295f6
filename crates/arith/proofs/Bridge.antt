-- From sums over an index to the parts written out, as code has them.
use Rattle.std.proofs.Common.{◌≡◌, ℕ, zero, suc, ◌+◌, ◌<◌, [], ◌∷◌, ℤ, pos, ◌+ℤ◌, ◌*ℤ◌, sym, refl, ap, ◌∙◌, ap₂, arith, w64, SFits}
use Rattle.arith.proofs.Ring.{linear}
use Rattle.arith.specs.Sums.{sum, total, listed, part}
use Rattle.arith.specs.Products.{dot}
use Rattle.arith.proofs.Bits.{back, back_is}
use Rattle.arith.proofs.Sums.{sum_ext, listed_at}

pub sum_two : (f : ℕ → ℤ) → sum 2 f ≡ f 0 +ℤ f 1
unfolding sum
sum_two f = omega (arith, linear)

pub sum-four : (f : ℕ → ℤ) → sum 4 f ≡ f 0 +ℤ f 1 +ℤ f 2 +ℤ f 3
unfolding sum
sum-four f = omega (arith, linear)

pub total_two : (f : ℕ → ℕ) → total 2 f ≡ f 0 + f 1
unfolding total
total_two f = omega arith

pub total-four : (f : ℕ → ℕ) → total 4 f ≡ f 0 + f 1 + f 2 + f 3
unfolding total
total-four f = omega arith

pub listed-four : {A : Type 0} (f : ℕ → A) → listed 4 f ≡ f 0 ∷ (f 1 ∷ (f 2 ∷ (f 3 ∷ [])))
unfolding listed
listed-four f = refl

pub listed_ext : {A : Type 0} (n : ℕ) (f g : ℕ → A) → ((i : ℕ) → i < n → f i ≡ g i) → listed n f ≡ listed n g
unfolding listed
listed_ext zero f g h = refl
listed_ext (suc n) f g h = ap₂ ◌∷◌ (h 0 (omega arith)) (listed_ext n (λ i. f (suc i)) (λ i. g (suc i)) (λ i k. h (suc i) (omega arith)))

-- the product with a list that is written from the index
pub dot-listed : (l f : ℕ → ℤ) → dot l (part (listed 4 f)) ≡ dot l f
dot-listed l f = sum_ext 4 (λ i. l i *ℤ part (listed 4 f) i) (λ i. l i *ℤ f i) (λ i h. ap (λ (z : ℤ). l i *ℤ z) (listed_at 4 f (pos 0) i h))

-- the same on the left
pub dot-left : (f x : ℕ → ℤ) → dot (part (listed 4 f)) x ≡ dot f x
dot-left f x = sum_ext 4 (λ i. part (listed 4 f) i *ℤ x i) (λ i. f i *ℤ x i) (λ i h. ap (λ (z : ℤ). z *ℤ x i) (listed_at 4 f (pos 0) i h))

-- numbers that were computed, put into a list
pub four-listed : (f : ℕ → ℤ) {a b c d : ℤ} → SFits w64 a → SFits w64 b → SFits w64 c → SFits w64 d → a ≡ f 0 → b ≡ f 1 → c ≡ f 2 → d ≡ f 3
    → back a ∷ (back b ∷ (back c ∷ (back d ∷ []))) ≡ listed 4 f
four-listed f {a} {b} {c} {d} fa fb fc fd p q r s =
    (λ i. (back_is a fa ∙ p) i ∷ ((back_is b fb ∙ q) i ∷ ((back_is c fc ∙ r) i ∷ ((back_is d fd ∙ s) i ∷ [])))) ∙ sym (listed-four f)
