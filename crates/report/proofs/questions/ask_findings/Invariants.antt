use Rattle.std.proofs.Common.{◌≡◌, ◌++◌, vec_items}
use Rattle.report.specs.Questions.{finding_calls}
use Rattle.report.proofs.questions.ask_findings.Given as goal

abbrev pub invariant-loop-n : goal.invariant-loop-n
invariant-loop-n l = vec_items l.calls ≡ vec_items l.initial.calls ++ finding_calls l.n
