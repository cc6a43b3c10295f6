use Rattle.std.proofs.Common.{◌≡◌, ◌≢◌, ℕ, ◌<◌, ◌≤◌, length, ℤ, ◌-ℤ◌, nat_abs, ◌∙◌, subst, arith, length-set, w64, SFits, rules}
use Rattle.arith.specs.Sums.{part}
use Rattle.arith.proofs.Bits.{back, back_is}
use Rattle.arith.proofs.Sums.{set_at}
use Rattle.trials.proofs.walk.draw_about.Goals as goal

pub loop-i-preserved : goal.loop-i-preserved
loop-i-preserved g c =
    let i = c.loop-i.i in
    let us = c.loop-i.parts in
    let p = part c.args.centres in
    let w = part c.args.radii in
    let r = c.about.result in
    let f : SFits w64 r = search rules in
    let a : SFits w64 (p i) = search rules in
    let b : SFits w64 (w i) = search rules in
    let n : length c.args.centres ≡ g.row.N = search rules in
    let near : nat_abs (r -ℤ p i) ≤ nat_abs (w i) = rw (back_is (p i) a, back_is (w i) b) at c.about.ensures in
    let drawn : nat_abs (back r -ℤ p i) ≤ nat_abs (w i) = rw (back_is r f) near in
    let inside : i < length us = omega (arith, c.loop-i.invariant.0) in (
      length-set us i (back r) ∙ c.loop-i.invariant.0,
      λ k h. set_at us i k (back r) (λ (z : ℤ). nat_abs (z -ℤ p k) ≤ nat_abs (w k)) inside
          (λ e. subst (λ (j : ℕ). nat_abs (back r -ℤ p j) ≤ nat_abs (w j)) e drawn)
          (λ e. let o : k ≢ i = e in c.loop-i.invariant.1 k (omega arith)),
    )
