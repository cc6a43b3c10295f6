use Rattle.std.proofs.Common.{ℕ, rules}
use Rattle.domains.specs.Axes.{unit}
use Rattle.domains.specs.Box.{carried}
use Rattle.domains.proofs.AllAxes.{map_axes}
use Rattle.domains.proofs.interval_box.carried_limits.Goals as goal

pub returns : goal.returns
returns c = map_axes (λ (a : ℕ). carried c.args.model.now c.args.limits.upper (unit a)) c.all.ensures (λ a y q h. (search rules, search rules)) c.map.ensures.items
