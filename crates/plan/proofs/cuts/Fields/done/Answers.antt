use Rattle.std.proofs.Common.{length, refl, ap, arith}
use Rattle.plan.specs.Cuts.{fields_left}
use Rattle.plan.proofs.Joins.{some_field}
use Rattle.plan.proofs.cuts.Fields.done.Goals as goal

pub returns-in-Some : goal.returns-in-Some
returns-in-Some c = (refl, omega (arith, ap (λ r. length (fields_left r)) c.in-Some.is, ap length (some_field c.in-Some.field-0.now).2))
