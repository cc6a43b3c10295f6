-- The laws of the sum of |l_i| a_i, and of numbers written into a list.
use Rattle.std.specs.Prelude.{◌≡◌, ℕ, ◌+◌, ◌*◌, ◌^◌, ◌<◌, ◌≤◌, List, ℤ, pos, ◌*ℤ◌, ◌≤ℤ◌, unsigned_abs}
use Rattle.std.proofs.Common.{ap, ap₂, ◌∙◌, mul-add, mul-le-mul, mul-le-mul_left, arith}
use Rattle.std.proofs.lemmas.Int.{ints}
use Rattle.arith.specs.Sums.{total, listed, part}
use Rattle.arith.specs.Products.{dot, spanned}
use Rattle.arith.proofs.Sums.{listed_at, sum_ext, sum-pos, total-le, total_ext, total-add}
use Rattle.zonotope.specs.Shape.{size}

pub count_is : (z : ℤ) → pos 0 ≤ℤ z → z ≡ pos (unsigned_abs z)
count_is z h = omega (arith, ints)

pub spanned-le : (l : ℕ → ℤ) (a b : ℕ → ℕ) → ((i : ℕ) → i < 4 → a i ≤ b i) → spanned l a ≤ spanned l b
spanned-le l a b h = total-le 4 (λ i. unsigned_abs (l i) * a i) (λ i. unsigned_abs (l i) * b i) (λ i k. mul-le-mul_left (unsigned_abs (l i)) (h i k))

pub spanned_ext : (l : ℕ → ℤ) (a b : ℕ → ℕ) → ((i : ℕ) → i < 4 → a i ≡ b i) → spanned l a ≡ spanned l b
spanned_ext l a b h = total_ext 4 (λ i. unsigned_abs (l i) * a i) (λ i. unsigned_abs (l i) * b i) (λ i k. ap (λ (z : ℕ). unsigned_abs (l i) * z) (h i k))

pub spanned-add : (l : ℕ → ℤ) (a b : ℕ → ℕ) → spanned l (λ i. a i + b i) ≡ spanned l a + spanned l b
spanned-add l a b =
    total_ext 4 (λ i. unsigned_abs (l i) * (a i + b i)) (λ i. unsigned_abs (l i) * a i + unsigned_abs (l i) * b i) (λ i h. mul-add (unsigned_abs (l i)) (a i) (b i))
    ∙ total-add 4 (λ i. unsigned_abs (l i) * a i) (λ i. unsigned_abs (l i) * b i)

-- numbers of at least 0, written into a list and read again
pub size-listed : (f : ℕ → ℕ) (i : ℕ) → i < 4 → size (listed 4 (λ i. pos (f i))) i ≡ f i
size-listed f i h = ap unsigned_abs (listed_at 4 (λ i. pos (f i)) (pos 0) i h)

pub spanned-listed : (l : ℕ → ℤ) (f : ℕ → ℕ) → spanned l (size (listed 4 (λ i. pos (f i)))) ≡ spanned l f
spanned-listed l f = spanned_ext l (size (listed 4 (λ i. pos (f i)))) f (size-listed f)

pub spanned-size : (l : ℕ → ℤ) (a : ℕ → ℕ) → ((i : ℕ) → i < 4 → unsigned_abs (l i) ≤ 2 ^ 20) → ((i : ℕ) → i < 4 → a i ≤ 2 ^ 30) → spanned l a ≤ 2 ^ 52
unfolding total
spanned-size l a p q = total-le 4 (λ i. unsigned_abs (l i) * a i) (λ i. 2 ^ 50) (λ i h. mul-le-mul (p i h) (q i h))

-- the product of the sizes of a vector's entries with numbers of at least 0
pub span_dot : (l s ls : List ℤ) → ls ≡ listed 4 (λ i. pos (size l i)) → ((i : ℕ) → i < 4 → pos 0 ≤ℤ part s i) → dot (part ls) (part s) ≡ pos (spanned (part l) (size s))
span_dot l s ls e h =
    sum_ext 4 (λ i. part ls i *ℤ part s i) (λ i. pos (size l i * size s i))
    (λ i k. ap₂ ◌*ℤ◌ (ap (λ (xs : List ℤ). part xs i) e ∙ listed_at 4 (λ i. pos (size l i)) (pos 0) i k) (count_is (part s i) (h i k)))
    ∙ sum-pos 4 (λ i. size l i * size s i)
