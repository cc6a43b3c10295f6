-- Products and sums reduced modulo 2^64 on the way are the reduced product or sum.
use Rattle.std.proofs.Common.{◌≡◌, ℕ, ◌+◌, ◌*◌, ◌%◌, ◌^◌, ◌<◌, List, ℤ, ◌+ℤ◌, ◌*ℤ◌, ap, ◌∙◌, ap₂, arith, w64, SFits, to_z, of_z}
use Rattle.std.specs.Int.{int_wrap}
use Rattle.std.proofs.lemmas.Int.{wrapping_add-bits, wrapping_mul_is, int_wrap-add_left, int_wrap-add_right, int_wrap_fits}
use Rattle.arith.specs.Sums.{listed, part, entry}
use Rattle.arith.specs.Products.{dot, row_times}
use Rattle.arith.proofs.Bridge.{listed_ext, dot-listed}

-- one product more
pub add-product : (m : ℕ) (s a b : ℤ) → m < 2 ^ 64 → SFits w64 a → SFits w64 b → to_z w64 m ≡ int_wrap w64 s
    → to_z w64 ((m + (of_z w64 a * of_z w64 b) % 2 ^ 64) % 2 ^ 64) ≡ int_wrap w64 (s +ℤ a *ℤ b)
add-product m s a b h f g e =
    wrapping_add-bits w64 m ((of_z w64 a * of_z w64 b) % 2 ^ 64) h (omega arith)
    ∙ ap₂ (λ (u v : ℤ). int_wrap w64 (u +ℤ v)) e (wrapping_mul_is w64 a b f g)
    ∙ int_wrap-add_left w64 s (int_wrap w64 (a *ℤ b))
    ∙ int_wrap-add_right w64 s (a *ℤ b)

-- a list of reduced numbers that all fit
pub exact-listed : (n : ℕ) (f : ℕ → ℤ) → ((i : ℕ) → i < n → SFits w64 (f i)) → listed n (λ i. int_wrap w64 (f i)) ≡ listed n f
exact-listed n f h = listed_ext n (λ i. int_wrap w64 (f i)) f (λ i k. int_wrap_fits w64 (f i) (h i k))

-- the product with column j of a matrix, which was read into a list
pub along-column : (l : ℕ → ℤ) (a : List (List ℤ)) (j : ℕ) {r : ℤ} {xs : List ℤ} → r ≡ int_wrap w64 (dot l (part xs)) → xs ≡ listed 4 (λ i. entry a i j)
    → r ≡ int_wrap w64 (row_times l (entry a) j)
along-column l a j e h = e ∙ ap (int_wrap w64) (ap (λ (xs : List ℤ). dot l (part xs)) h ∙ dot-listed l (λ i. entry a i j))
