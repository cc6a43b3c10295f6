-- Two checked values with the same numbers are the same.
use Rattle.std.proofs.Common.{◌≡◌}
use mathlib.Core.HLevel.{is_prop→PathP}
use denote.Struct.Props.{props}
use Rattle.dynamics.specs.declared.direction.Direction.{Direction}
use Rattle.dynamics.specs.declared.start.Start.{Start}
use Rattle.dynamics.specs.Limits.{DirectionLimits, StartLimits}

pub direction_same : (d e : Direction) → d.entries ≡ e.entries → d ≡ e
direction_same d e p = λ i. record { entries = p i; limited = is_prop→PathP (λ j. DirectionLimits (p j)) (λ j. hlevel props) d.limited e.limited i }

pub start_same : (a b : Start) → a.centres ≡ b.centres → a.radii ≡ b.radii → a ≡ b
start_same a b p q = λ i. record { centres = p i; radii = q i; limited = is_prop→PathP (λ j. StartLimits (p j) (q j)) (λ j. hlevel props) a.limited b.limited i }
