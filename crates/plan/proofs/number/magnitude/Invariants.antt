use Rattle.std.proofs.Common.{◌≡◌, ◌+◌, ◌-◌, ◌^◌, ◌<◌, ◌≤◌, drop}
use Rattle.plan.specs.Numbers.{more, lead}
use Rattle.plan.proofs.number.magnitude.Given as goal

abbrev pub invariant-loop-i : goal.invariant-loop-i
invariant-loop-i l = record {
  reads : more l.field l.value (15 - l.i) (l.start + 1 + l.i) (drop l.i l.rest) ≡ lead l.field l.start l.digits;
  few : l.i ≤ 15;
  small : l.value < 10 ^ (l.i + 1);
}
