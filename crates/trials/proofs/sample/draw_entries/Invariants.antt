use Rattle.std.proofs.Common.{ℕ, ◌*◌, ◌<◌, ◌≤◌, nat_abs}
use Rattle.arith.specs.Sums.{part}
use Rattle.trials.proofs.sample.draw_entries.Given as goal

-- the entries so far are small
abbrev pub invariant-loop-entry : goal.invariant-loop-entry
invariant-loop-entry l = (k : ℕ) → k < l.entry-index → nat_abs (part l.entry-items k) ≤ 4096 * nat_abs l.limit
