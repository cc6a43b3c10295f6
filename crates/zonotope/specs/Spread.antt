-- The spread: how far a zonotope's bound may have moved from the exact support number.
use Rattle.std.specs.Prelude.{ℕ, zero, suc, ◌+◌, ◌-◌, ◌*◌, ◌/◌, Bool, true, false, List, [], length, ℤ, pos, ◌==◌, slice_index_or, unsigned_abs}
use Rattle.arith.specs.Sums.{listed, part}
use Rattle.arith.specs.Products.{spanned}
use Rattle.dynamics.specs.declared.model.Model.{Model}
use Rattle.dynamics.specs.Values.{loop}
use Rattle.zonotope.specs.Shape.{Shape, size}
use Rattle.zonotope.specs.Advance.{advanced}
use Rattle.zonotope.specs.Choice.{longest, lightest}
use Rattle.zonotope.specs.Fold.{folded}

-- z_i after an advance, before folding: down(sum of |A_ij| z_j + 4095) + 2 a_i, with the new axis part a
abbrev pub advanced_part : (ℕ → ℕ → ℤ) → List ℤ → List ℤ → ℕ → ℕ
advanced_part a new s i = (spanned (a i) (size s) + 4095) / 4096 + 2 * size new i

unfoldable pub spread_advanced : (ℕ → ℕ → ℤ) → List ℤ → List ℤ → List ℤ
spread_advanced a new s = listed 4 (λ i. pos (advanced_part a new s i))

-- what a fold of g adds to the spread of part i: 2 |g_i|, and 0 where part i is spared
abbrev pub charged : Bool → ℕ → ℕ
charged true n = 0
charged false n = 2 * n

abbrev pub added : ℕ → (ℕ → ℤ) → ℕ → ℕ
added p g i = charged (i == p) (unsigned_abs (g i))

unfoldable pub spread_folded : ℕ → List ℤ → List ℤ → List ℤ
spread_folded p g s = listed 4 (λ i. pos (size s i + added p (part g) i))

-- the spread after the lightest generator was folded, its first largest |entry| spared
unfoldable pub spread_charged : Shape → List ℤ → List ℤ
spread_charged z s =
    let g = slice_index_or z.generators (lightest z.generators) [] in
    spread_folded (longest g) g s

-- the spread after n folds
unfoldable pub spreads : ℕ → Shape → List ℤ → List ℤ
spreads zero z s = s
spreads (suc n) z s = spreads n (folded (lightest z.generators) z) (spread_charged z s)

-- the spread after an advance and its folds
abbrev pub moved_spread : Model → Shape → List ℤ → List ℤ
moved_spread m z s = spreads (length (advanced m z).generators - 16) (advanced m z) (spread_advanced (loop m) (advanced m z).axis s)

-- the spread's allowance in direction l: the sum of |l_i| z_i
abbrev pub spread_allowance : (ℕ → ℤ) → List ℤ → ℕ
spread_allowance l s = spanned l (size s)
