use Rattle.std.proofs.Common.{◌+◌, ◌≤◌, length}
use Rattle.report_tests.proofs.count_agreeing.Given as goal

abbrev pub invariant-loop-n : goal.invariant-loop-n
invariant-loop-n g l = l.agreeing + length l.rest ≤ length l.table
