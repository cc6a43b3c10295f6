-- Rounding at the fixed point: whole numbers against their 4096-folds.
use Rattle.std.specs.Prelude.{ℕ, ◌/◌, ℤ, pos, negsuc, ◌+ℤ◌, ◌-ℤ◌, ◌*ℤ◌, unsigned_abs}

-- down: the greatest whole number whose 4096-fold is at most h
abbrev pub floored : ℤ → ℤ
floored (pos n) = pos (n / 4096)
floored (negsuc n) = negsuc (n / 4096)

-- near: the whole number whose 4096-fold is nearest to u, the greater of two
abbrev pub nearest : ℤ → ℤ
nearest u = floored (u +ℤ pos 2048)

-- how far u lies from the 4096-fold of its nearest
abbrev pub residue : ℤ → ℕ
residue u = unsigned_abs (u -ℤ pos 4096 *ℤ nearest u)
