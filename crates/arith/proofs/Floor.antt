-- The laws of rounding at the fixed point.
use Rattle.std.proofs.Common.{◌≡◌, ℕ, ◌*◌, ◌≤◌, ℤ, pos, negsuc, ◌+ℤ◌, ◌-ℤ◌, ◌*ℤ◌, nat_abs, ◌≤ℤ◌, ◌<ℤ◌, ap, ◌∙◌, arith}
use borrow.Author.Differences.{ints}
use Rattle.arith.specs.Rounding.{floored, nearest, residue}

pub floored_low : (h : ℤ) → (pos 4096 *ℤ floored h) ≤ℤ h
floored_low (pos n) = omega (arith, ints)
floored_low (negsuc n) = omega (arith, ints)

pub floored_high : (h : ℤ) → h <ℤ (pos 4096 *ℤ (floored h +ℤ pos 1))
floored_high (pos n) = omega (arith, ints)
floored_high (negsuc n) = omega (arith, ints)

pub floored-greatest : (h y : ℤ) → (pos 4096 *ℤ y) ≤ℤ h → y ≤ℤ floored h
floored-greatest h y k = omega (arith, ints, floored_low h, floored_high h)

pub floored_unique : (h y : ℤ) → (pos 4096 *ℤ y) ≤ℤ h → h <ℤ (pos 4096 *ℤ (y +ℤ pos 1)) → y ≡ floored h
floored_unique h y k j = omega (arith, ints, floored_low h, floored_high h)

pub floored_mono : (a b : ℤ) → a ≤ℤ b → floored a ≤ℤ floored b
floored_mono a b k = omega (arith, ints, floored_low a, floored_high b)

-- the nearest 4096-fold is at most half of 4096 away
pub residue_small : (u : ℤ) → residue u ≤ 2048
residue_small u = omega (arith, ints, floored_low (u +ℤ pos 2048), floored_high (u +ℤ pos 2048))

pub floored-size : (z : ℤ) (n : ℕ) → nat_abs z ≤ 4096 * n → nat_abs (floored z) ≤ n
floored-size (pos z) n h = omega arith
floored-size (negsuc z) n h = omega arith

-- the two ways to the nearest, by what the whole part q leaves over
pub record Near (u q r : ℤ) : Type 0 where
  pub quotient : q ≡ nearest u
  pub rest : r ≡ pos (residue u)
  pub distance : r ≡ pos (nat_abs (u -ℤ pos 4096 *ℤ q))
  pub half : nat_abs r ≤ 2048

pub near_below : (u q : ℤ) → q ≡ floored u → (u -ℤ pos 4096 *ℤ q) <ℤ pos 2048 → Near u q (u -ℤ pos 4096 *ℤ q)
near_below u q e h =
    let low = floored_low u in
    let n : q ≡ nearest u = floored_unique (u +ℤ pos 2048) q (omega (arith, ints)) (omega (arith, ints)) in
    let d : u -ℤ pos 4096 *ℤ q ≡ pos (nat_abs (u -ℤ pos 4096 *ℤ q)) = omega (arith, ints) in
    record { quotient = n; rest = d ∙ ap (λ (z : ℤ). pos (nat_abs (u -ℤ pos 4096 *ℤ z))) n; distance = d; half = omega (arith, ints) }

pub near_above : (u q : ℤ) → q ≡ floored u → pos 2048 ≤ℤ (u -ℤ pos 4096 *ℤ q) → Near u (q +ℤ pos 1) (pos 4096 -ℤ (u -ℤ pos 4096 *ℤ q))
near_above u q e h =
    let high = floored_high u in
    let n : q +ℤ pos 1 ≡ nearest u = floored_unique (u +ℤ pos 2048) (q +ℤ pos 1) (omega (arith, ints)) (omega (arith, ints)) in
    let d : pos 4096 -ℤ (u -ℤ pos 4096 *ℤ q) ≡ pos (nat_abs (u -ℤ pos 4096 *ℤ (q +ℤ pos 1))) = omega (arith, ints) in
    record { quotient = n; rest = d ∙ ap (λ (z : ℤ). pos (nat_abs (u -ℤ pos 4096 *ℤ z))) n; distance = d; half = omega (arith, ints) }
