-- What a zonotope is, what it holds, and how far it reaches.
use Rattle.std.specs.Prelude.{◌≡◌, ℕ, ◌+◌, ◌<◌, ◌≤◌, List, [], ◌∷◌, ℤ, pos, ◌+ℤ◌, ◌*ℤ◌, unsigned_abs}
use Rattle.arith.specs.Sums.{part}
use Rattle.arith.specs.Products.{dot, spanned}
use Rattle.dynamics.specs.Values.{State}

-- a centre, an axis part of four numbers of at least 0, and generators in order
pub record Shape : Type 0 where
  pub centre : List ℤ
  pub axis : List ℤ
  pub generators : List (List ℤ)

-- the size of part i; of a number that is never negative, the number itself
abbrev pub size : List ℤ → ℕ → ℕ
size xs i = unsigned_abs (part xs i)

-- one number for each generator, each within ±n
pub data Within (n : ℕ) : List ℤ → List (List ℤ) → Type 0 where
  within_none : Within n [] []
  within_more : {b : ℤ} {g : List ℤ} {bs : List ℤ} {gs : List (List ℤ)} → unsigned_abs b ≤ n → Within n bs gs → Within n (b ∷ bs) (g ∷ gs)

-- part i of the sum of b_j g_j
abbrev pub combined : List ℤ → List (List ℤ) → ℕ → ℤ
combined [] gs i = pos 0
combined (b ∷ bs) [] i = pos 0
combined (b ∷ bs) (g ∷ gs) i = b *ℤ part g i +ℤ combined bs gs i

-- x is held: some n of at least 1, and whole b_j and f_i within ±n, give
-- n x_i = n c_i + f_i a_i + sum of b_j g_ji in every part
pub record Held (z : Shape) (x : State) : Type 0 where
  pub scale : ℕ
  pub some : 1 ≤ scale
  pub axial : ℕ → ℤ
  pub shares : List ℤ
  pub axial_within : (i : ℕ) → i < 4 → unsigned_abs (axial i) ≤ scale
  pub shares_within : Within scale shares z.generators
  pub at : (i : ℕ) → i < 4 → pos scale *ℤ x i ≡ pos scale *ℤ part z.centre i +ℤ axial i *ℤ pos (size z.axis i) +ℤ combined shares z.generators i

-- the sum of |l g_j|
abbrev pub reaches : (ℕ → ℤ) → List (List ℤ) → ℕ
reaches l [] = 0
reaches l (g ∷ gs) = unsigned_abs (dot l (part g)) + reaches l gs

-- l c + sum of |l_i| a_i + sum of |l g_j|
abbrev pub bound : (ℕ → ℤ) → Shape → ℤ
bound l z = dot l (part z.centre) +ℤ pos (spanned l (size z.axis) + reaches l z.generators)

-- the sum of |g_ji| over the generators
abbrev pub sizes : List (List ℤ) → ℕ → ℕ
sizes [] i = 0
sizes (g ∷ gs) i = size g i + sizes gs i

-- |c_i| + a_i + sum of |g_ji|
abbrev pub extent : Shape → ℕ → ℕ
extent z i = size z.centre i + size z.axis i + sizes z.generators i
