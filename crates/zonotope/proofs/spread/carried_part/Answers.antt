use Rattle.std.proofs.Common.{◌≡◌, ℕ, ◌+◌, ◌*◌, ◌/◌, ◌^◌, ◌<◌, ◌≤◌, List, [], get_or, ℤ, pos, ◌+ℤ◌, ◌*ℤ◌, nat_abs, ◌≤ℤ◌, sym, ap, ◌∙◌, subst, arith, w64, SFits}
use borrow.Author.Differences.{ints}
use Rattle.arith.specs.Rounding.{floored}
use Rattle.arith.specs.Products.{spanned}
use Rattle.arith.specs.Sums.{part}
use Rattle.arith.proofs.Bits.{back}
use Rattle.dynamics.specs.Values.{loop}
use Rattle.dynamics.specs.Limits.{MatrixLimits}
use Rattle.dynamics.specs.declared.model.Model.{Model}
use Rattle.zonotope.specs.declared.stored.Radii.{Radii}
use Rattle.zonotope.specs.Shape.{size}
use Rattle.zonotope.specs.Spans.{spanned-size}
use Rattle.zonotope.proofs.spread.carried_part.Goals as goal
use Rattle.zonotope.proofs.spread.carried_part.Goals.{After-down}

pub span-requires : goal.span-requires
span-requires c = λ j h. subst (MatrixLimits 4) (sym c.matrix.ensures) c.args.model.now.entered c.args.i j c.requires h

-- the span of the row
span-is : (m : Model) (r : Radii) (i : ℕ) {a : List (List ℤ)} {s : ℤ} → a ≡ m.matrix → s ≡ pos (spanned (part (get_or a i [])) (size r.parts)) → s ≡ pos (spanned (loop m i) (size r.parts))
span-is m r i e p = p ∙ ap (λ (a : List (List ℤ)). pos (spanned (part (get_or a i [])) (size r.parts))) e

small : (m : Model) (r : Radii) (i : ℕ) → i < 4 → spanned (loop m i) (size r.parts) ≤ 2 ^ 52
small m r i h = spanned-size (loop m i) (size r.parts) (λ j p. m.entered i j h p) (λ j p. (r.limited j p).1)

fitting : (s : ℤ) (n : ℕ) → s ≡ pos n → n ≤ 2 ^ 52 → SFits w64 (back s +ℤ pos 4095)
fitting s n e h = omega (arith, ints)

read : (s : ℤ) (n : ℕ) → s ≡ pos n → n ≤ 2 ^ 52 → back (back s +ℤ pos 4095) ≡ pos (n + 4095)
read s n e h = omega (arith, ints)

-- the sum of a rounded number and twice a radius
record Sum (d a : ℤ) (n : ℕ) : Type 0 where
  fits : SFits w64 (back d +ℤ back (pos 2 *ℤ back a))
  is : back (back d +ℤ back (pos 2 *ℤ back a)) ≡ pos ((n + 4095) / 4096 + 2 * nat_abs a)

sum_of : (d a : ℤ) (n : ℕ) → d ≡ pos ((n + 4095) / 4096) → n ≤ 2 ^ 52 → pos 0 ≤ℤ a → nat_abs a ≤ 2 ^ 30 → Sum d a n
sum_of d a n e h p q = record { fits = omega (arith, ints); is = omega (arith, ints) }

pub overflow_add-span : goal.overflow_add-span
overflow_add-span c =
    let m = c.args.model.now in
    let r = c.args.spread in
    fitting c.span.result (spanned (loop m c.args.i) (size r.parts)) (span-is m r c.args.i c.matrix.ensures c.span.ensures) (small m r c.args.i c.requires)

all : (c : After-down) → Sum c.down.result (part c.args.axis.parts c.args.i) (spanned (loop c.args.model.now c.args.i) (size c.args.spread.parts))
all c =
    let m = c.args.model.now in
    let r = c.args.spread in
    let i = c.args.i in
    let n = spanned (loop m i) (size r.parts) in
    sum_of c.down.result (part c.args.axis.parts i) n
    (c.down.ensures.value ∙ ap floored (read c.span.result n (span-is m r i c.matrix.ensures c.span.ensures) (small m r i c.requires)))
    (small m r i c.requires) (c.args.axis.limited i c.requires).0 (c.args.axis.limited i c.requires).1

pub overflow_add-result : goal.overflow_add-result
overflow_add-result c = (all (goal.at.overflow_add-result c).After-down).fits

pub returns : goal.returns
returns c = (all (goal.at.returns c).After-down).is
