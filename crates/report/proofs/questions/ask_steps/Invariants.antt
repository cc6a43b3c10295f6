use Rattle.std.proofs.Common.{◌≡◌, ◌++◌, vec_items}
use Rattle.report.specs.Questions.{step_calls}
use Rattle.report.proofs.questions.ask_steps.Given as goal

abbrev pub invariant-loop : goal.invariant-loop
invariant-loop l = vec_items l.calls ≡ vec_items l.initial.calls ++ step_calls l.counter
