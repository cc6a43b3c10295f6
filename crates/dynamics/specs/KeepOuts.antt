-- When a state, and a run, has entered a keep-out.
use Rattle.std.specs.Prelude.{ℕ, ◌<◌, List, length, ◌≤ℤ◌}
use Rattle.arith.specs.Products.{dot}
use Rattle.dynamics.specs.declared.keep_out.KeepOut.{KeepOut}
use Rattle.dynamics.specs.Values.{State, along}
use Rattle.dynamics.specs.Runs.{state}

-- x has entered the keep-out: its product with the direction is at least the threshold
abbrev pub Entered : KeepOut → State → Type 0
Entered k x = k.threshold ≤ℤ dot (along k.direction) x

-- a run enters at step s where it has a state x_s, and x_s has entered
abbrev pub Enters : KeepOut → List State → ℕ → Type 0
Enters k xs s = (s < length xs) × Entered k (state xs s)
