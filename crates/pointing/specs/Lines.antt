-- The report's line for one step.
use Rattle.std.specs.Prelude.{ℕ, List, [], ◌∷◌, ℤ, pos, Some, None, Option, slice_index_or}
use Rattle.domains.specs.declared.enclosure.Interval.{Interval}
use Rattle.plan.specs.Report.{step_line, unbounded_line}

-- the interval of a part, counted from 0
abbrev pub part : List Interval → ℕ → Interval
part is i = slice_index_or is i (record { low = pos 0; high = pos 0 })

-- the ends of the four parts' intervals, one after the other
abbrev pub ends : List Interval → List ℤ
ends is = (part is 0).low ∷ (part is 0).high ∷ (part is 1).low ∷ (part is 1).high ∷ (part is 2).low ∷ (part is 2).high ∷ (part is 3).low ∷ (part is 3).high ∷ []

-- the line of a step, by the intervals of its parts
abbrev pub step_text : ℕ → Option (List Interval) → List ℕ
step_text k None = unbounded_line k
step_text k (Some is) = step_line k (ends is)
