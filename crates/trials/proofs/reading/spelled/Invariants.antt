use Rattle.std.proofs.Common.{◌≡◌, ◌++◌, string_bytes}
use Rattle.trials.specs.Texts.{repeated}
use Rattle.trials.proofs.reading.spelled.Given as goal

abbrev pub invariant-loop : goal.invariant-loop
invariant-loop l = string_bytes l.text ≡ ((l.case.rows.now ++ l.case.gusts.now) ++ l.case.starts.now) ++ repeated l.counter l.case.keep.now
