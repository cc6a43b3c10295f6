-- Numbers of 64 bits as a proof's goals show them: to their bits, and read again.
use Rattle.std.proofs.Common.{◌≡◌, ℕ, ◌^◌, ◌<◌, ◌≤◌, ℤ, nat_abs, arith, w64, SFits, to_z, of_z}
use borrow.Author.Differences.{ints}
use mir.ValLaws.{to_z-of_z}

-- a number that was computed, passed or read
abbrev pub back : ℤ → ℤ
back z = to_z w64 (of_z w64 z)

pub back_is : (z : ℤ) → SFits w64 z → back z ≡ z
back_is z f = to_z-of_z w64 z f

-- a number of bounded size fits
pub fits_abs : (z : ℤ) (n : ℕ) → nat_abs z ≤ n → n < 2 ^ 63 → SFits w64 z
fits_abs z n h k = omega (arith, ints)
