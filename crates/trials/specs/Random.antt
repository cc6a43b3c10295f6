-- The generator of the trials, and what it draws about.
use Rattle.std.specs.Prelude.{ℕ, ◌+◌, ◌*◌, ◌%◌, ◌^◌, ◌≤◌, ℤ, pos, ◌≤ℤ◌, unsigned_abs}

-- the seed after a seed
abbrev pub next : ℕ → ℕ
next s = ((s * 6364136223846793005) % 2 ^ 64 + 1442695040888963407) % 2 ^ 64

-- a number from 0 to a limit
abbrev pub UpTo : ℤ → ℤ → Type 0
UpTo limit z = (pos 0 ≤ℤ z) × (z ≤ℤ limit)

-- what drawing about a centre within a radius asks of the two
pub record Drawable (centre radius : ℤ) : Type 0 where
  pub low : pos 0 ≤ℤ radius
  pub small : unsigned_abs centre + unsigned_abs radius ≤ 2 ^ 30
