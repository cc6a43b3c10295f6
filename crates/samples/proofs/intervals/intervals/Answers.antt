use Rattle.std.proofs.Common.{Some, ap, rules}
use Rattle.arith.specs.Sums.{listed}
use Rattle.arith.proofs.FromFn.{from_fn_listed}
use Rattle.samples.specs.Intervals as spec
use Rattle.samples.proofs.intervals.intervals.Goals as goal

pub returns : goal.returns
unfolding listed
returns c =
    let f = spec.interval c.args.ends in
    ap Some (from_fn_listed f 4 _ _ (f 0) (λ i y q l h. search rules) c.from_fn.ensures.items)
