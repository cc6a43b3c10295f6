-- What the limits of a stored zonotope give.
use Rattle.std.proofs.Common.{◌≡◌, ℕ, ◌^◌, ◌≤◌, List, [], get_or, take, ℤ, ap, arith}
use Rattle.zonotope.specs.declared.stored.Stored.{Stored}
use Rattle.zonotope.specs.Shape.{size, sizes}
use Rattle.zonotope.specs.Ranges.{Entries, AllEntries}
use Rattle.zonotope.specs.Forms.{Generators, standing}
use Rattle.zonotope.specs.Grown.{sizes-removed}

-- one generator's entry against the sum
pub entry-size : (gs : List (List ℤ)) (j i : ℕ) → size (get_or gs j []) i ≤ sizes gs i
entry-size gs j i = omega (arith, sizes-removed gs j i)

pub standing_none : (g : Generators) → g.len ≡ 0 → standing g ≡ []
standing_none g e = ap (λ (n : ℕ). take n g.storage) e

pub stored_entries : (t : Stored) → AllEntries (2 ^ 30) (standing t.generators)
stored_entries t j i h = omega (arith, entry-size (standing t.generators) j i, t.limited i h)

pub stored_centre : (t : Stored) → Entries (2 ^ 30) t.centre
stored_centre t i h = omega (arith, t.limited i h)
