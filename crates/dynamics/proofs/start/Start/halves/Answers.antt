use Rattle.std.proofs.Common.{◌≡◌, ℕ, ◌/◌, ◌^◌, ◌≤◌, ℤ, pos, ◌-ℤ◌, neg_ℤ, nat_abs, ap, ◌∙◌, arith}
use borrow.Author.Differences.{ints}
use Rattle.arith.proofs.Bits.{back}
use Rattle.dynamics.specs.declared.start.Start.{Start}
use Rattle.dynamics.specs.Halves.{widest, shift, moved}
use Rattle.dynamics.specs.Values.{width}
use Rattle.dynamics.proofs.Views.{width-size}
use Rattle.dynamics.proofs.Halves.{widest-first, halves_cover}
use Rattle.dynamics.proofs.start.Start.halves.Goals as goal

-- the shift as the code has it, and negated
record Shifts (w : ℤ) (h : ℕ) : Type 0 where
  down : back (pos 0 -ℤ back w) ≡ neg_ℤ (pos h)
  up : back w ≡ pos h

shifts : (w : ℤ) (h : ℕ) → w ≡ pos h → h ≤ 2 ^ 30 → Shifts w h
shifts w h e k = record { down = omega (arith, ints); up = omega (arith, ints) }

module _ (s : Start) {p : ℕ} {w : ℤ} (e : p ≡ widest (width s)) (f : w ≡ pos (width s p / 2)) where
  shift_is : Shifts w (shift s)
  shift_is =
      let t = width-size s (widest (width s)) (widest-first (width s)).inside in
      shifts w (shift s) (f ∙ ap (λ (k : ℕ). pos (width s k / 2)) e) (omega arith)

  down_near : nat_abs (back (pos 0 -ℤ back w)) ≤ shift s
  down_near = rw shift_is.down (negated (shift s))
    where
      negated : (h : ℕ) → nat_abs (neg_ℤ (pos h)) ≤ h
      negated h = omega (arith, ints)

  up_near : nat_abs (back w) ≤ shift s
  up_near = rw shift_is.up (omega arith)

pub returns : goal.returns
returns c =
    let s = c.args.self.now in
    let t = shift_is s c.widest_part-part.ensures.value c.half_radius-shift.ensures in
    let p = c.half.ensures.centres ∙ ap (λ (d : ℤ). moved d s) t.down in
    let u = c.half-2.ensures.centres ∙ ap (λ (d : ℤ). moved d s) t.up in
    record {
      lower = (p, c.half.ensures.radii);
      upper = (u, c.half-2.ensures.radii);
      widest = widest-first (width s);
      cover = halves_cover s c.half.result c.half-2.result p c.half.ensures.radii u c.half-2.ensures.radii;
    }
