use Rattle.std.proofs.Common.{rules}
use Rattle.domains.proofs.AllAxes.{axes_made}
use Rattle.domains.proofs.axis.SignedAxis.all.Goals as goal

pub returns : goal.returns
returns c = axes_made (λ i a q l h. (search rules, search rules)) c.from_fn.ensures.items
