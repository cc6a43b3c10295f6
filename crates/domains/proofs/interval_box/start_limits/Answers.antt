use Rattle.std.proofs.Common.{◌≡◌, Some, rules}
use Rattle.arith.specs.Sums.{listed}
use Rattle.domains.specs.Box.{Fitting, start_limit}
use Rattle.domains.specs.BoxLaws.{start_limit_size, listed_limits}
use Rattle.domains.proofs.AllAxes.{map_axes}
use Rattle.domains.proofs.interval_box.start_limits.Goals as goal
use Rattle.domains.proofs.interval_box.start_limits.Goals.{After-map-upper}

made : (c : After-map-upper) → c.map-upper.result ≡ listed 8 (start_limit c.args.start.now)
made c = map_axes (start_limit c.args.start.now) c.all.ensures (λ a y q h. (search rules, search rules)) c.map-upper.ensures.items

pub invariant_of-result : goal.invariant_of-result
invariant_of-result c =
    let l : Fitting (Some c.map-upper.result) = rw (made c) (listed_limits (start_limit c.args.start.now) (start_limit_size c.args.start.now)) in
    record { eight = l.0; small = l.1 }

pub returns : goal.returns
returns c = made (goal.at.returns c).After-map-upper
