-- A fact of each of the first few indices.
use Rattle.std.proofs.Common.{ℕ, zero, suc, ◌<◌, arith}

pub by2 : (P : ℕ → Type 0) → P 0 → P 1 → (i : ℕ) → i < 2 → P i
by2 P a b zero h = a
by2 P a b (suc zero) h = b
by2 P a b (suc (suc n)) h = absurd (omega arith)

pub by4 : (P : ℕ → Type 0) → P 0 → P 1 → P 2 → P 3 → (i : ℕ) → i < 4 → P i
by4 P a b c d zero h = a
by4 P a b c d (suc zero) h = b
by4 P a b c d (suc (suc n)) h = by2 (λ i. P (suc (suc i))) c d n (omega arith)

pub by8 : (P : ℕ → Type 0) → P 0 → P 1 → P 2 → P 3 → P 4 → P 5 → P 6 → P 7 → (i : ℕ) → i < 8 → P i
by8 P a b c d e f g h zero k = a
by8 P a b c d e f g h (suc zero) k = b
by8 P a b c d e f g h (suc (suc zero)) k = c
by8 P a b c d e f g h (suc (suc (suc zero))) k = d
by8 P a b c d e f g h (suc (suc (suc (suc n)))) k = by4 (λ i. P (suc (suc (suc (suc i))))) e f g h n (omega arith)
