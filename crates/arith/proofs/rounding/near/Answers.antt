use Rattle.std.proofs.Common.{◌≡◌, ℤ, pos, ◌+ℤ◌, ◌-ℤ◌, ◌*ℤ◌, ap, ◌∙◌, arith, w64, SFits}
use borrow.Author.Differences.{ints}
use Rattle.arith.specs.Rounding.{floored}
use Rattle.arith.proofs.Bits.{back, back_is}
use Rattle.arith.proofs.Floor.{Near, near_below, near_above, floored_low, floored_high}
use Rattle.arith.proofs.rounding.near.Goals as goal

-- no step on the way leaves 64 bits
record Computed (u q : ℤ) : Type 0 where
  whole : back q ≡ q
  left : back (back u -ℤ back (pos 4096 *ℤ back q)) ≡ u -ℤ pos 4096 *ℤ q
  next : back (back q +ℤ pos 1) ≡ q +ℤ pos 1
  other : back (pos 4096 -ℤ back (back u -ℤ back (pos 4096 *ℤ back q))) ≡ pos 4096 -ℤ (u -ℤ pos 4096 *ℤ q)

computed : (u q : ℤ) → SFits w64 u → q ≡ floored u → Computed u q
computed u q f e =
    let low = floored_low u in
    let high = floored_high u in
    record { whole = omega (arith, ints); left = omega (arith, ints); next = omega (arith, ints); other = omega (arith, ints) }

-- a result that was computed is as near as the one that it stands for
near-back : (u q r q' r' : ℤ) → q' ≡ q → r' ≡ r → Near u q r → Near u q' r'
near-back u q r q' r' a b n = rw (a, b) n

pub returns-then-remainder-lt2048 : goal.returns-then-remainder-lt2048
returns-then-remainder-lt2048 c =
    let u = c.args.u in
    let q = c.down-quotient.result in
    let e = c.down-quotient.ensures.value ∙ ap floored (back_is u c.ranges.u) in
    let m = computed u q c.ranges.u e in
    let n = near-back u q (u -ℤ pos 4096 *ℤ q) _ _ m.whole m.left (near_below u q e (omega (arith, ints))) in
    record { quotient = n.quotient; rest = n.rest; distance = n.distance; half = n.half }

pub returns-else-remainder-lt2048 : goal.returns-else-remainder-lt2048
returns-else-remainder-lt2048 c =
    let u = c.args.u in
    let q = c.down-quotient.result in
    let e = c.down-quotient.ensures.value ∙ ap floored (back_is u c.ranges.u) in
    let m = computed u q c.ranges.u e in
    let n = near-back u (q +ℤ pos 1) (pos 4096 -ℤ (u -ℤ pos 4096 *ℤ q)) _ _ m.next m.other (near_above u q e (omega (arith, ints))) in
    record { quotient = n.quotient; rest = n.rest; distance = n.distance; half = n.half }
