-- The sizes of the sum of |l g_j|, whole and on the way.
use Rattle.std.specs.Prelude.{ℕ, zero, suc, ◌+◌, ◌^◌, ◌<◌, ◌≤◌, List, [], ◌∷◌, length, take, ℤ, slice_index_or, unsigned_abs}
use Rattle.std.proofs.Common.{le_trans, arith}
use Rattle.arith.specs.Sums.{part}
use Rattle.arith.specs.Products.{dot, spanned}
use Rattle.arith.proofs.Dots.{dot-size}
use Rattle.zonotope.specs.Shape.{size, sizes, reaches}
use Rattle.zonotope.specs.Spans.{spanned-add, spanned-size}
use Rattle.zonotope.specs.Grown.{reaches-next}

pub reaches-size : (l : ℕ → ℤ) (gs : List (List ℤ)) → reaches l gs ≤ spanned l (sizes gs)
reaches-size l [] = omega arith
reaches-size l (g ∷ gs) =
    omega (arith, reaches-size l gs, dot-size l (part g) (size g) (λ i h. omega arith), spanned-add l (size g) (sizes gs))

reaches-take : (l : ℕ → ℤ) (gs : List (List ℤ)) (k : ℕ) → reaches l (take k gs) ≤ reaches l gs
reaches-take l gs zero = omega arith
reaches-take l [] (suc k) = omega arith
reaches-take l (g ∷ gs) (suc k) = omega (arith, reaches-take l gs k)

-- one generator more stays small
pub reaches_step : (l : ℕ → ℤ) (gs : List (List ℤ)) (k : ℕ) → ((i : ℕ) → i < 4 → unsigned_abs (l i) ≤ 2 ^ 20) → ((i : ℕ) → i < 4 → sizes gs i ≤ 2 ^ 30) → k < length gs
    → reaches l (take k gs) + unsigned_abs (dot l (part (slice_index_or gs k []))) ≤ 2 ^ 52
reaches_step l gs k p q h =
    let t = le_trans (reaches-size l gs) (spanned-size l (sizes gs) p q) in
    omega (arith, reaches-next l gs k h, reaches-take l gs (k + 1))
