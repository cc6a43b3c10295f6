use Rattle.std.proofs.Common.{pos, rules}
use Rattle.arith.proofs.Sums.{list_all-every}
use Rattle.dynamics.specs.Rows.{multiple}
use Rattle.dynamics.proofs.allowance.is_whole.Goals as goal

pub returns-then-all_multiples : goal.returns-then-all_multiples
returns-then-all_multiples c =
    let a = list_all-every multiple (pos 0) 4 c.args.a (search rules) in
    let b = list_all-every multiple (pos 0) 2 c.args.b (search rules) in
    search rules

pub returns-else-all_multiples : goal.returns-else-all_multiples
returns-else-all_multiples c =
    let a = list_all-every multiple (pos 0) 4 c.args.a (search rules) in
    search rules
