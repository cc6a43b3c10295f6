-- The figures that follow by computing: folding, halving, limits and numbers.
use Rattle.std.proofs.Common.{◌≡◌, ℕ, ◌+◌, List, [], ◌∷◌, ℤ, pos, negsuc, Some, None, sym, refl, subst, subst₂}
use Rattle.arith.specs.Sums.{total, listed}
use Rattle.dynamics.specs.declared.start.Start.{Start}
use Rattle.dynamics.specs.Halves.{lower_centres, upper_centres, half_radii}
use Rattle.dynamics.specs.Limits.{StartLimits}
use Rattle.dynamics.specs.Ranges.{first_outside}
use Rattle.dynamics.specs.Refusals.{start_refusal, first_passing}
use Rattle.dynamics.proofs.Same.{start_same}
use Rattle.zonotope.specs.Choice.{greatest, least, first, weight, lightest}
use Rattle.zonotope.specs.Fold.{folded}
use Rattle.zonotope.specs.Spread.{spread_folded, spread_charged}
use Rattle.figures.specs.Figures.{generator, alone}
use Rattle.figures.specs.Worked.{four, zeros}

pub weighs : weight generator ≡ 4
unfolding total greatest
weighs = refl

pub axis_grows : (c : List ℤ) (i j k l : ℕ) → folded (lightest (generator ∷ [])) (alone c (four (pos i) (pos j) (pos k) (pos l))) ≡ record { centre = c; axis = four (pos (i + 3)) (pos (j + 5)) (pos (k + 0)) (pos (l + 1)); generators = [] }
unfolding folded lightest least first total greatest listed
axis_grows c i j k l = refl

pub spread_grows : (c a : List ℤ) (i j k l : ℕ) → spread_charged (alone c a) (four (pos i) (pos j) (pos k) (pos l)) ≡ four (pos (i + 6)) (pos (j + 0)) (pos (k + 0)) (pos (l + 2))
unfolding spread_charged spread_folded lightest least first total greatest listed
spread_grows c a i j k l = refl

abbrev radius_3 : List ℤ
radius_3 = four (pos 3) (pos 0) (pos 0) (pos 0)

abbrev Halved : Start → Type 0
Halved s =
    (lower_centres s ≡ four (negsuc 0) (pos 0) (pos 0) (pos 0)) × (upper_centres s ≡ four (pos 1) (pos 0) (pos 0) (pos 0)) × (half_radii s ≡ four (pos 2) (pos 0) (pos 0) (pos 0))

pub halved : (s : Start) → s.centres ≡ zeros → s.radii ≡ radius_3 → Halved s
unfolding listed
halved s p q =
    let t : Start = record { centres = zeros; radii = radius_3; limited = subst₂ StartLimits p q s.limited } in
    subst Halved (start_same t s (sym p) (sym q)) (refl, refl, refl)

pub far_accepted : start_refusal (four (pos 1073741824) (pos 0) (pos 0) (pos 0)) zeros ≡ None
unfolding first_outside first_passing
far_accepted = refl

pub far_refused : start_refusal (four (pos 1073741824) (pos 0) (pos 0) (pos 0)) (four (pos 1) (pos 0) (pos 0) (pos 0)) ≡ Some (7, 2)
unfolding first_outside first_passing
far_refused = refl
