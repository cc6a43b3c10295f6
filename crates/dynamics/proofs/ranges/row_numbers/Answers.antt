use Rattle.std.proofs.Common.{◌^◌, pos, ◌∙◌, rules}
use Rattle.arith.proofs.Bridge.{listed-four}
use Rattle.arith.proofs.FromFn.{map_listed}
use Rattle.dynamics.specs.Ranges.{within}
use Rattle.dynamics.proofs.ranges.row_numbers.Goals as goal

pub returns : goal.returns
returns c = map_listed (within (pos (2 ^ 20))) c.args.row 4 _ c.map.result (pos 0) (within (pos 0) (pos 0)) (λ x y q h. (search rules, search rules)) c.map.ensures.items ∙ listed-four _
