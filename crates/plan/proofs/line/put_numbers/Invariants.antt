use Rattle.std.proofs.Common.{◌≡◌, ◌+◌, ◌*◌, ◌≤◌, ◌++◌, map, take}
use Rattle.std.specs.Fmt.{signed_decimal}
use Rattle.arrayvec.specs.ArrayString.{array_string_len}
use Rattle.plan.specs.Grammar.{tabs}
use Rattle.plan.proofs.line.put_numbers.Given as goal

abbrev pub invariant-loop-n : goal.invariant-loop-n
invariant-loop-n l = record {
  text : l.line.bytes ≡ l.initial.line.bytes ++ tabs (map signed_decimal (take l.n-index l.n-items));
  len : array_string_len l.line ≤ array_string_len l.initial.line + 21 * l.n-index;
}
