use Rattle.std.proofs.Common.{◌≡◌, length, take}
use Rattle.plan.specs.Keeps.{kept_list}
use Rattle.plan.specs.Report.{Added}
use Rattle.report.specs.Replies.{told_keeps}
use Rattle.report.specs.Report.{bytes}
use Rattle.report.proofs.lines.put_keeps.Given as goal

abbrev pub invariant-loop-keep : goal.invariant-loop-keep
invariant-loop-keep l =
    Added l.initial.out.buf.now l.initial.out.len (bytes (take (length l.yielded) (told_keeps l.text (kept_list l.keeps) l.found))) l.out.buf.now l.out.len
    × (l.out.buf.ghost_name ≡ l.initial.out.buf.ghost_name)
