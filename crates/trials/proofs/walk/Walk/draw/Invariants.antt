use Rattle.std.proofs.Common.{ℕ, ◌<◌, ◌≤◌, ◌-ℤ◌, nat_abs, vec_items}
use Rattle.arith.specs.Sums.{part}
use Rattle.dynamics.specs.Values.{middle, radius}
use Rattle.trials.proofs.Walks.{Walking}
use Rattle.trials.proofs.walk.Walk.draw.Given as goal

-- the states so far are a run that ends at x, and the next gusts are permitted
abbrev pub invariant-loop : goal.invariant-loop
invariant-loop l =
    Walking l.model l.start (vec_items l.states) l.x
    × ((j : ℕ) → j < 2 → nat_abs (part l.gusts j -ℤ middle l.model j) ≤ radius l.model j)
