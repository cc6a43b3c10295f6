use Rattle.std.proofs.Common.{pos, ◌+ℤ◌, ap, ◌∙◌, w64, SFits, rules}
use Rattle.arith.specs.Products.{spanned}
use Rattle.arith.specs.Rounding.{floored}
use Rattle.arith.specs.Sums.{part}
use Rattle.arith.proofs.Bits.{back_is}
use Rattle.dynamics.specs.Rows.{allowance}
use Rattle.dynamics.specs.Support.{through, gusts}
use Rattle.domains.specs.Axes.{unit}
use Rattle.domains.specs.Box.{support}
use Rattle.domains.proofs.Carried.{Gathered, row, gathered}
use Rattle.domains.proofs.support.carried_limit.Goals as goal
use Rattle.domains.proofs.support.carried_limit.Goals.{After-part}

pub support-reach-requires : goal.support-reach-requires
support-reach-requires c = (row c.args.axis.index 4 c.unit-unit.ensures c.matrix.ensures c.args.model.now.entered c.row_times.ensures.exact).small

pub gust_reach-gusts-requires : goal.gust_reach-gusts-requires
gust_reach-gusts-requires c = (row c.args.axis.index 2 c.unit-unit.ensures c.gains.ensures c.args.model.now.gained c.row_times-2.ensures.exact).small

all : (c : After-part) → Gathered c.support-reach.result c.gust_reach-gusts.result (part c.allowances.result c.part.result)
    (support (through c.args.model.now (unit c.args.axis.index)) c.args.limits.upper +ℤ gusts c.args.model.now (unit c.args.axis.index) +ℤ pos (spanned (unit c.args.axis.index) (allowance c.args.model.now)))
all c = gathered c.args.model.now c.args.limits.upper c.args.axis.index c.part.result c.row_times.result c.row_times-2.result c.allowances.result
    c.args.axis.eight c.part.ensures.value c.args.limits.small
    (row c.args.axis.index 4 c.unit-unit.ensures c.matrix.ensures c.args.model.now.entered c.row_times.ensures.exact)
    (row c.args.axis.index 2 c.unit-unit.ensures c.gains.ensures c.args.model.now.gained c.row_times-2.ensures.exact)
    c.support-reach.ensures c.gust_reach-gusts.ensures c.allowances.ensures

pub overflow_add-reach : goal.overflow_add-reach
overflow_add-reach c = (all (goal.at.overflow_add-reach c).After-part).first

pub overflow_add-reach-2 : goal.overflow_add-reach-2
overflow_add-reach-2 c = (all (goal.at.overflow_add-reach-2 c).After-part).second

pub returns : goal.returns
returns c = let f : SFits w64 c.down.result = search rules in back_is c.down.result f ∙ c.down.ensures.value ∙ ap floored (all (goal.at.returns c).After-part).is
