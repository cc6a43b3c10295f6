use Rattle.std.proofs.Common.{◌≡◌, ◌-◌, ◌++◌}
use Rattle.pointing.specs.Report.{later_text, reported}
use Rattle.pointing.proofs.put_run.Given as goal

abbrev pub invariant-loop-step : goal.invariant-loop-step
invariant-loop-step g l =
    reported l.out ++ later_text g.D.Domain.sense l.model l.step (l.steps - l.step) (g.D.Domain.form l.domain)
    ≡ reported l.initial.out ++ later_text g.D.Domain.sense l.initial.model 0 l.initial.steps (g.D.Domain.form l.initial.domain)
