use Rattle.plan.proofs.Texts.{read_back}
use Rattle.plan.proofs.writer.Writer.step.Goals as goal

pub returns-clause-back : goal.returns-clause-back
returns-clause-back c = read_back
