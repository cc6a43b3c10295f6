-- Radii are never negative, and the limits of centres and radii.
use Rattle.std.proofs.Common.{◌≡◌, ℕ, ◌^◌, ◌<◌, ◌≤◌, ℤ, pos, nat_abs, ◌≤ℤ◌, arith}
use borrow.Author.Differences.{ints}
use Rattle.arith.specs.Sums.{part}
use Rattle.dynamics.specs.declared.model.Model.{Model}
use Rattle.dynamics.specs.declared.start.Start.{Start}
use Rattle.dynamics.specs.Values.{middle, radius, width}

not_negative : (z : ℤ) → pos 0 ≤ℤ z → z ≡ pos (nat_abs z)
not_negative z h = omega (arith, ints)

pub radius_is : (m : Model) (j : ℕ) → j < 2 → part m.radii j ≡ pos (radius m j)
radius_is m j h = not_negative (part m.radii j) (m.calm.0 j h)

pub width_is : (s : Start) (i : ℕ) → i < 4 → part s.radii i ≡ pos (width s i)
width_is s i h = not_negative (part s.radii i) (s.limited.0 i h)

pub middle-size : (m : Model) (j : ℕ) → j < 2 → nat_abs (middle m j) ≤ 2 ^ 24
middle-size m j h = omega (arith, m.calm.1 j h)

pub radius-size : (m : Model) (j : ℕ) → j < 2 → radius m j ≤ 2 ^ 24
radius-size m j h = omega (arith, m.calm.1 j h)

pub width-size : (s : Start) (i : ℕ) → i < 4 → width s i ≤ 2 ^ 30
width-size s i h = omega (arith, s.limited.1 i h)
