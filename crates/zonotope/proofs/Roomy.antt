-- What a fold leaves: no sum grows past the room that it had.
use Rattle.std.proofs.Common.{◌≡◌, ℕ, suc, ◌+◌, ◌-◌, ◌*◌, ◌<◌, ◌≤◌, Bool, true, false, eqb, List, [], length, get_or, ℤ, pos, refl, ap, arith}
use Rattle.std.specs.List.{remove}
use borrow.Author.Differences.{ints}
use Rattle.arith.specs.Sums.{part, listed}
use Rattle.arith.proofs.Sums.{listed_at}
use Rattle.zonotope.specs.Shape.{Shape, size, sizes}
use Rattle.zonotope.specs.Choice.{lightest}
use Rattle.zonotope.specs.Fold.{grown, folded, folds, reduced}
use Rattle.zonotope.specs.Spread
use Rattle.zonotope.specs.Spread.{added, spread_folded, spread_charged, spreads}
use Rattle.zonotope.specs.Ranges.{Roomy}
use Rattle.zonotope.proofs.Counts.{listed-size}
use Rattle.zonotope.proofs.Firsts.{folded-length}
use Rattle.zonotope.specs.Grown.{sizes-removed}

-- a list written from f, where f and what is left stay within the room
roomy_listed : (k n : ℕ) (f : ℕ → ℕ) (gs : List (List ℤ)) → ((i : ℕ) → i < 4 → f i + k * sizes gs i ≤ n) → Roomy k n (listed 4 (λ i. pos (f i))) gs
roomy_listed k n f gs h i q =
    (rw (listed_at 4 (λ i. pos (f i)) (pos 0) i q) (omega (arith, ints)), rw (listed-size f (listed 4 (λ i. pos (f i))) i refl q) (h i q))

pub roomy_grown : (n p : ℕ) (a : List ℤ) (gs : List (List ℤ)) → Roomy 1 n a gs → Roomy 1 n (grown a (get_or gs p [])) (remove gs p)
roomy_grown n p a gs h =
    roomy_listed 1 n (λ i. size a i + size (get_or gs p []) i) (remove gs p) (λ i q. omega (arith, (h i q).1, sizes-removed gs p i))

pub roomy_charged : (n p q : ℕ) (s : List ℤ) (gs : List (List ℤ)) → Roomy 2 n s gs → Roomy 2 n (spread_folded q (get_or gs p []) s) (remove gs p)
unfolding spread_folded
roomy_charged n p q s gs h =
    roomy_listed 2 n (λ i. size s i + added q (part (get_or gs p [])) i) (remove gs p)
    (λ i k. omega (arith, (h i k).1, sizes-removed gs p i, at_most_twice (eqb i q) (size (get_or gs p []) i)))
  where
    at_most_twice : (b : Bool) (m : ℕ) → Spread.charged b m ≤ 2 * m
    at_most_twice true m = omega arith
    at_most_twice false m = omega arith

-- ---- one fold more, and none left
module _ (z : Shape) where
  lengths : 16 < length z.generators → length z.generators - 16 ≡ suc (length (folded (lightest z.generators) z).generators - 16)
  lengths h = omega (arith, folded-length z (omega arith))

  pub reduced-more : 16 < length z.generators → reduced z ≡ reduced (folded (lightest z.generators) z)
  unfolding folds
  reduced-more h = ap (λ (n : ℕ). folds n z) (lengths h)

  pub spreads-more : (s : List ℤ) → 16 < length z.generators
      → spreads (length z.generators - 16) z s ≡ spreads (length (folded (lightest z.generators) z).generators - 16) (folded (lightest z.generators) z) (spread_charged z s)
  unfolding spreads
  spreads-more s h = ap (λ (n : ℕ). spreads n z s) (lengths h)

  pub reduced-none : length z.generators ≤ 16 → reduced z ≡ z
  unfolding folds
  reduced-none h = let e : length z.generators - 16 ≡ 0 = omega arith in ap (λ (n : ℕ). folds n z) e

  pub spreads-none : (s : List ℤ) → length z.generators ≤ 16 → spreads (length z.generators - 16) z s ≡ s
  unfolding spreads
  spreads-none s h = let e : length z.generators - 16 ≡ 0 = omega arith in ap (λ (n : ℕ). spreads n z s) e
