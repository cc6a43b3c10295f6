use Rattle.std.proofs.Common.{ap, ◌∙◌}
use Rattle.plan.specs.Cuts.{fields_left}
use Rattle.plan.proofs.Breaks.{next_field}
use Rattle.plan.proofs.cuts.Fields.next.Goals as goal

pub returns : goal.returns
returns c =
    ap fields_left c.in_ok-rest.ensures.ok_part ∙ next_field c.in_ok-rest.rest.now c.part-field.result.now c.get-self.result c.part-field.ensures c.get-self.ensures.lookup.0
