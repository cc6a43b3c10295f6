-- Judging: which keep-outs open at a step.
use Rattle.std.specs.Prelude.{◌≡◌, ℕ, zero, suc, Bool, true, false, cond, not, ◌&&◌, List, ℤ, Some, None, Option, int_lt, slice_index_or, slice_set, refl}
use Rattle.dynamics.specs.declared.direction.Direction.{Direction}
use Rattle.dynamics.specs.Refusals.{direction_refusal}
use Rattle.dynamics.proofs.Checks.{direction_exact}
use Rattle.tube.specs.declared.finding.Finding.{Finding}
use Rattle.tube.specs.declared.finding.Finding.TheVariants.{Clear, Open}
use Rattle.tube.specs.declared.row.Row.{Row}
use Rattle.tube.specs.Rows.{opened, blank}

-- the direction of four entries, absent where they are not within its limits
unfoldable pub direction_by : (l : List ℤ) (o : Option (ℕ × ℕ)) → direction_refusal l ≡ o → Option Direction
direction_by l None e = Some (record { entries = l; limited = (direction_exact l).0 e })
direction_by l (Some q) e = None

unfoldable pub direction_of : List ℤ → Option Direction
direction_of l = direction_by l (direction_refusal l) refl

-- b is the bound that a domain answers in each direction
abbrev pub bound_along : (Direction → Option ℤ) → Option Direction → Option ℤ
bound_along b None = None
bound_along b (Some d) = b d

abbrev pub row_bound : (Direction → Option ℤ) → Row → Option ℤ
row_bound b r = bound_along b (direction_of r.entries)

-- the bound is absent or at least the threshold
abbrev pub reaches : ℤ → Option ℤ → Bool
reaches t None = true
reaches t (Some b) = not (int_lt b t)

abbrev pub is_clear : Finding → Bool
is_clear Clear = true
is_clear (Open s) = false

-- a keep-out that is still clear opens where its bound is absent or at least its threshold
abbrev pub must_open : (Direction → Option ℤ) → Row → Bool
must_open b r = is_clear r.finding && reaches r.threshold (row_bound b r)

abbrev pub judged_row : (Direction → Option ℤ) → ℕ → Row → Row
judged_row b step r = cond (must_open b r) (opened step r) r

-- the first n rows judged at a step
unfoldable pub judged : (Direction → Option ℤ) → ℕ → ℕ → List Row → List Row
judged b step zero rows = rows
judged b step (suc n) rows = slice_set (judged b step n rows) n (judged_row b step (slice_index_or (judged b step n rows) n blank))
