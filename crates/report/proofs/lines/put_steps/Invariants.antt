use Rattle.std.proofs.Common.{◌≡◌, take}
use Rattle.plan.specs.Report.{Added}
use Rattle.report.specs.Replies.{told_steps}
use Rattle.report.specs.Report.{bytes}
use Rattle.report.proofs.lines.put_steps.Given as goal

abbrev pub invariant-loop-step : goal.invariant-loop-step
invariant-loop-step l =
    Added l.initial.out.buf.now l.initial.out.len (bytes (take l.step (told_steps l.answers l.steps))) l.out.buf.now l.out.len
    × (l.out.buf.ghost_name ≡ l.initial.out.buf.ghost_name)
