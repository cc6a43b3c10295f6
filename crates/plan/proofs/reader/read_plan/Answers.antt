use Rattle.std.proofs.Common.{◌+◌, Ok, Err, arith}
use Rattle.std.proofs.lemmas.Grind.{common_steps}
use Rattle.plan.specs.declared.faults.Refusal.TheVariants.{Line, Following}
use Rattle.plan.proofs.Law.{answers}
use Rattle.plan.proofs.reader.read_plan.Goals as goal

pub returns-in-Err-clause-law : goal.returns-in-Err-clause-law
returns-in-Err-clause-law c = answers c.args.text.now (Err (Line (c.plan.new.self.number + 1) c.in-Err.fault)) (grind (arith, common_steps))

pub returns-then-is_empty-clause-law : goal.returns-then-is_empty-clause-law
returns-then-is_empty-clause-law c = answers c.args.text.now (Ok c.in-Ok.plan) (grind (arith, common_steps))

pub returns-else-is_empty-clause-law : goal.returns-else-is_empty-clause-law
returns-else-is_empty-clause-law c = answers c.args.text.now (Err (Following (c.plan.new.self.number + 1))) (grind (arith, common_steps))
