-- Which generator is folded: the lightest, the earliest among equals.
use Rattle.std.specs.Prelude.{ℕ, zero, suc, ◌-◌, ◌<◌, ◌≤◌, min, max, Bool, true, false, List, [], length, ℤ, nat_eq, slice_index_or}
use Rattle.arith.specs.Sums.{total}
use Rattle.zonotope.specs.Shape.{size}

-- the greatest of f 0, .., f (n - 1), and the least
unfoldable pub greatest : ℕ → (ℕ → ℕ) → ℕ
greatest zero f = 0
greatest (suc n) f = max (f 0) (greatest n (λ i. f (suc i)))

unfoldable pub least : ℕ → (ℕ → ℕ) → ℕ
least zero f = 0
least (suc zero) f = f 0
least (suc (suc n)) f = min (f 0) (least (suc n) (λ i. f (suc i)))

-- the first of 0, .., n - 1 that passes the test
unfoldable pub first : ℕ → (ℕ → Bool) → ℕ
first zero p = 0
first (suc n) p = elim (p 0) [ true ↦ 0 | false ↦ suc (first n (λ i. p (suc i))) ]

-- the place of a generator's first largest |entry|
abbrev pub longest : List ℤ → ℕ
longest g = first 4 (λ i. nat_eq (size g i) (greatest 4 (size g)))

-- the sum of |entries| less the largest |entry|
abbrev pub weight : List ℤ → ℕ
weight g = total 4 (size g) - greatest 4 (size g)

-- the weight of generator j
abbrev pub weights : List (List ℤ) → ℕ → ℕ
weights gs j = weight (slice_index_or gs j [])

-- the place of the first generator of least weight
unfoldable pub lightest : List (List ℤ) → ℕ
lightest gs = first (length gs) (λ j. nat_eq (weights gs j) (least (length gs) (weights gs)))

-- p is the first of the places below n where f is least
pub record FirstLeast (n : ℕ) (f : ℕ → ℕ) (p : ℕ) : Type 0 where
  pub inside : p < n
  pub least : (k : ℕ) → k < n → f p ≤ f k
  pub earliest : (k : ℕ) → k < p → f p < f k

-- p is the first of the places below n where f is greatest
pub record FirstGreatest (n : ℕ) (f : ℕ → ℕ) (p : ℕ) : Type 0 where
  pub inside : p < n
  pub greatest : (k : ℕ) → k < n → f k ≤ f p
  pub earliest : (k : ℕ) → k < p → f k < f p
