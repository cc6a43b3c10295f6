-- Simulated runs that the loop permits.
use Rattle.std.specs.Prelude.{List, All, map, vec_items}
use Rattle.arith.specs.Sums.{part}
use Rattle.dynamics.specs.declared.model.Model.{Model}
use Rattle.dynamics.specs.declared.start.Start.{Start}
use Rattle.dynamics.specs.Runs.{Run}
use Rattle.trials.specs.declared.walk.Walk.{Walk}

-- every one of them is a permitted run of the model from the start
abbrev pub AllPermitted : Model → Start → List Walk → Type 0
AllPermitted m s ws = All (λ w. Run m s (map part (vec_items w.states))) ws
