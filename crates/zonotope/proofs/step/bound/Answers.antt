use Rattle.std.proofs.Common.{◌≡◌, ℕ, ◌+◌, ◌^◌, ◌≤◌, List, ℤ, pos, ◌+ℤ◌, nat_abs, refl, ap, ◌∙◌, subst, le_trans, arith, lit<, w64, SFits}
use borrow.Author.Differences.{ints}
use Rattle.arith.specs.Products.{dot, spanned}
use Rattle.arith.specs.Sums.{part}
use Rattle.arith.proofs.Bits.{back, fits_abs}
use Rattle.arith.proofs.Dots.{dot-size}
use Rattle.dynamics.specs.declared.direction.Direction.{Direction}
use Rattle.dynamics.specs.Values.{along}
use Rattle.zonotope.specs.declared.stored.Stored.{Stored}
use Rattle.zonotope.specs.Shape.{size, sizes, reaches}
use Rattle.zonotope.specs.Forms.{standing}
use Rattle.zonotope.specs.Reaches.{reaches-size}
use Rattle.zonotope.specs.Spans.{spanned-size}
use Rattle.zonotope.proofs.StoredLimits.{stored_centre}
use Rattle.zonotope.proofs.step.bound.Goals as goal
use Rattle.zonotope.proofs.step.bound.Goals.{After-reach}

-- three numbers, none large, and their sum
record Three (m a r d : ℤ) (x y : ℕ) : Type 0 where
  first : SFits w64 (back m +ℤ back a)
  second : SFits w64 (back (back m +ℤ back a) +ℤ back r)
  is : back (back (back m +ℤ back a) +ℤ back r) ≡ d +ℤ pos (x + y)

three : (m a r d : ℤ) (x y : ℕ) → m ≡ d → a ≡ pos x → r ≡ pos y → nat_abs d ≤ 2 ^ 52 → x ≤ 2 ^ 52 → y ≤ 2 ^ 52 → Three m a r d x y
three m a r d x y e f g p q s = record { first = omega (arith, ints); second = omega (arith, ints); is = omega (arith, ints) }

-- the sizes of the three
module _ (t : Stored) (l : Direction) where
  centre-size : nat_abs (dot (along l) (part t.centre)) ≤ 2 ^ 52
  centre-size = le_trans (dot-size (along l) (part t.centre) (size t.centre) (λ i h. omega arith)) (spanned-size (along l) (size t.centre) l.limited (stored_centre t))

  axis-size : spanned (along l) (size t.axis.parts) ≤ 2 ^ 52
  axis-size = spanned-size (along l) (size t.axis.parts) l.limited (λ i h. (t.axis.limited i h).1)

  reach_size : reaches (along l) (standing t.generators) ≤ 2 ^ 52
  reach_size = le_trans (reaches-size (along l) (standing t.generators)) (spanned-size (along l) (sizes (standing t.generators)) l.limited (λ i h. omega (arith, t.limited i h)))

  -- the product with the centre, which fits
  middle_is : {k : List ℤ} {q : ℤ} → k ≡ l.entries → (SFits w64 (dot (part k) (part t.centre)) → q ≡ dot (part k) (part t.centre)) → q ≡ dot (along l) (part t.centre)
  middle_is {k} {q} e h =
      subst (λ (k : List ℤ). SFits w64 (dot (part k) (part t.centre)) → q ≡ dot (part k) (part t.centre)) e h (fits_abs (dot (along l) (part t.centre)) (2 ^ 52) centre-size (lit< tt))

  sides_are : {k : List ℤ} {q : ℤ} → k ≡ l.entries → q ≡ pos (spanned (part k) (size t.axis.parts)) → q ≡ pos (spanned (along l) (size t.axis.parts))
  sides_are e p = p ∙ ap (λ (k : List ℤ). pos (spanned (part k) (size t.axis.parts))) e

all : (c : After-reach) → Three c.product-middle.result c.span-sides.result c.reach.result (dot (along c.args.direction.now) (part c.args.stored.now.centre))
    (spanned (along c.args.direction.now) (size c.args.stored.now.axis.parts)) (reaches (along c.args.direction.now) (standing c.args.stored.now.generators))
all c =
    let t = c.args.stored.now in
    let l = c.args.direction.now in
    three c.product-middle.result c.span-sides.result c.reach.result (dot (along l) (part t.centre)) (spanned (along l) (size t.axis.parts)) (reaches (along l) (standing t.generators))
    (middle_is t l c.entries.ensures c.product-middle.ensures.exact) (sides_are t l c.entries-2.ensures c.span-sides.ensures) c.reach.ensures
    (centre-size t l) (axis-size t l) (reach_size t l)

pub overflow_add-result : goal.overflow_add-result
overflow_add-result c =
    let t = c.args.stored.now in
    let l = c.args.direction.now in
    (three c.product-middle.result c.span-sides.result (pos 0) (dot (along l) (part t.centre)) (spanned (along l) (size t.axis.parts)) 0
    (middle_is t l c.entries.ensures c.product-middle.ensures.exact) (sides_are t l c.entries-2.ensures c.span-sides.ensures) refl (centre-size t l) (axis-size t l) (omega arith)).first

pub overflow_add-result-2 : goal.overflow_add-result-2
overflow_add-result-2 c = (all (goal.at.overflow_add-result-2 c).After-reach).second

pub returns : goal.returns
returns c = (all (goal.at.returns c).After-reach).is
