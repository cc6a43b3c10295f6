use Rattle.std.proofs.Common.{pos, rules}
use Rattle.arith.specs.Sums.{every}
use Rattle.arith.proofs.FromFn.{from_fn_listed}
use Rattle.dynamics.specs.Rows.{allowance}
use Rattle.dynamics.proofs.model.Model.allowances.Goals as goal

pub returns : goal.returns
unfolding every
returns c = from_fn_listed (λ i. pos (allowance c.args.self.now i)) 4 _ c.from_fn.result (pos 0) (λ i y q l h. (search rules, search rules)) c.from_fn.ensures.items
