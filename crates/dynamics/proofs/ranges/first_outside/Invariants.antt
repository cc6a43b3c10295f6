use Rattle.std.proofs.Common.{◌≡◌, ◌+◌, [], ◌++◌, drop}
use Rattle.dynamics.specs.Ranges.{first_outside}
use Rattle.dynamics.proofs.ranges.first_outside.Given as goal

-- what is left gives the result
abbrev pub invariant-loop-i : goal.invariant-loop-i
invariant-loop-i l = first_outside (l.before + l.i) (drop l.i l.numbers ++ []) ≡ first_outside l.before l.numbers
