use Rattle.std.proofs.Common.{◌≡◌, take}
use Rattle.dynamics.specs.declared.direction.Direction.{Direction}
use Rattle.trials.specs.Counts.{looked}
use Rattle.trials.specs.Seen.{seen_in}
use Rattle.trials.proofs.check.check_step.Given as goal

abbrev pub invariant-loop-direction : goal.invariant-loop-direction
invariant-loop-direction g l =
    (looked l.tally ≡ l.direction-index)
    × (l.tally ≡ seen_in (λ (d : Direction). g.D.Domain.sense.bounded d (g.D.Domain.form l.tube.domain)) l.step l.walks (take l.direction-index l.directions))
