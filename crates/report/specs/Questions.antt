-- What a report asks of a tube: the bounds of step 0 on the signed axes, for each later step a step
-- and those bounds, and at the end each finding.
use Rattle.std.specs.Prelude.{ℕ, List, ◌∷◌, ◌++◌, map}
use Rattle.std.specs.List.{range_with_len, flat_map}
use Rattle.domains.specs.Axes.{axis}
use Rattle.tube.specs.declared.call.Call.{Call}
use Rattle.tube.specs.declared.call.Call.TheVariants.{Step, Bound, Finding as Ask}

abbrev pub bound_calls : List Call
bound_calls = map (λ a. Bound (axis a)) (range_with_len 0 8)

abbrev pub step_calls : ℕ → List Call
step_calls n = flat_map (λ k. Step ∷ bound_calls) (range_with_len 0 n)

abbrev pub finding_calls : ℕ → List Call
finding_calls count = map Ask (range_with_len 0 count)

abbrev pub questions : ℕ → ℕ → List Call
questions n count = bound_calls ++ (step_calls n ++ finding_calls count)
