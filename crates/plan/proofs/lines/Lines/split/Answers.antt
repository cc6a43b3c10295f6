use Rattle.std.proofs.Common.{refl}
use Rattle.plan.proofs.Breaks.{no_line, next_line}
use Rattle.plan.proofs.lines.Lines.split.Goals as goal

pub returns : goal.returns
returns c = (refl, refl, next_line c.args.self.number c.args.self.rest.now c.part-line.result.now c.in-Some.rest c.part-line.ensures c.in-Some.ensures.lookup.0)

pub returns-in_default : goal.returns-in_default
returns-in_default c = no_line c.args.self.number c.args.self.rest.now c.part-line.result.now c.part-line.ensures c.in_default.ensures.lookup.0
