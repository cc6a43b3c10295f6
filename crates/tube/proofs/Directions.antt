-- The direction of four entries, by what the check of them says.
use Rattle.std.proofs.Common.{◌≡◌, ℕ, List, ℤ, Some, None, Option, refl, ap, arith}
use Rattle.dynamics.specs.declared.direction.Direction.{Direction}
use Rattle.dynamics.specs.Refusals.{direction_refusal}
use Rattle.dynamics.proofs.Checks.{direction_exact}
use Rattle.dynamics.proofs.Same.{direction_same}
use Rattle.tube.specs.Judging.{direction_by, direction_of}

pub direction_made : (d : Direction) → direction_of d.entries ≡ Some d
unfolding direction_of direction_by
direction_made d = go (direction_refusal d.entries) refl ((direction_exact d.entries).1 d.limited)
  where
    go : (o : Option (ℕ × ℕ)) (e : direction_refusal d.entries ≡ o) → o ≡ None → direction_by d.entries o e ≡ Some d
    go None e h = ap Some (direction_same (record { entries = d.entries; limited = (direction_exact d.entries).0 e }) d refl)
    go (Some q) e h = let z : ◌≡◌ {A = ℕ} 0 1 = cc in absurd (omega arith)

pub direction_none : (l : List ℤ) (q : ℕ × ℕ) → direction_refusal l ≡ Some q → direction_of l ≡ None
unfolding direction_of direction_by
direction_none l q r = go (direction_refusal l) refl r
  where
    go : (o : Option (ℕ × ℕ)) (e : direction_refusal l ≡ o) → o ≡ Some q → direction_by l o e ≡ None
    go None e h = let z : ◌≡◌ {A = ℕ} 0 1 = cc in absurd (omega arith)
    go (Some p) e h = refl
