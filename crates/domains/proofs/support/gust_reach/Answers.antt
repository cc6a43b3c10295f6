use Rattle.std.proofs.Common.{◌≡◌, ◌*◌, ◌^◌, ◌≤◌, ℤ, pos, ◌+ℤ◌, ◌*ℤ◌, nat_abs, arith, w64, SFits, rules}
use borrow.Author.Differences.{ints}
use Rattle.arith.specs.Sums.{part, sum, total}
use Rattle.arith.proofs.Bits.{back}
use Rattle.dynamics.specs.Values.{middle, radius}
use Rattle.domains.proofs.GustReach.{centred, spread, centred_size, spread_size}
use Rattle.domains.proofs.support.gust_reach.Goals as goal
use Rattle.domains.proofs.support.gust_reach.Goals.{After-product-2}

-- the two products, and their sum
record Reach (a b s t : ℤ) : Type 0 where
  fits : SFits w64 (back a +ℤ back b)
  is : back (back a +ℤ back b) ≡ s +ℤ t

reach : (a b s t : ℤ) → SFits w64 a → SFits w64 b → a ≡ s → b ≡ t → nat_abs s ≤ 2 * (2 ^ 22 * 2 ^ 24) → nat_abs t ≤ 2 * (2 ^ 22 * 2 ^ 24) → Reach a b s t
reach a b s t f g p q h k = record { fits = omega (arith, ints); is = omega (arith, ints) }

all : (c : After-product-2) → Reach c.product.result c.product-2.result
    (sum 2 (λ j. part c.args.gains j *ℤ middle c.args.model.now j)) (pos (total 2 (λ j. nat_abs (part c.args.gains j) * radius c.args.model.now j)))
all c =
    let m = c.args.model.now in
    let g = c.args.gains in
    let h0 : SFits w64 c.product.result = search rules in
    let h1 : SFits w64 c.product-2.result = search rules in
    reach c.product.result c.product-2.result _ _ h0 h1
    (centred m g c.requires c.centres.ensures c.product.ensures.exact)
    (spread m g c.requires (c.sizes.ensures.exact (λ j k. omega (arith, c.requires j k))) c.radii.ensures c.product-2.ensures.exact)
    (centred_size m g c.requires) (spread_size m g c.requires)

pub overflow_add-result : goal.overflow_add-result
overflow_add-result c = (all c).fits

pub returns : goal.returns
returns c = (all c).is
