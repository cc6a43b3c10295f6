use Rattle.std.proofs.Common.{◌+◌, [], ◌++◌, drop, sym, ap, ◌∙◌, add_assoc}
use Rattle.dynamics.specs.Ranges.{first_outside}
use Rattle.dynamics.proofs.Places.{number_good, number_bad, numbers_end}
use Rattle.dynamics.proofs.ranges.first_outside.Goals as goal

pub loop-i-preserved : goal.loop-i-preserved
loop-i-preserved c =
    let ns = c.args.numbers.now in
    let i = c.loop-i.i in
    ap (λ k. first_outside k (drop (i + 1) ns ++ [])) (sym (add_assoc c.args.before i 1))
    ∙ sym (number_good ns [] i (c.args.before + i) c.loop-i-test.true (sym c.if-is_outside.ensures))
    ∙ c.loop-i.invariant

pub returns-then-is_outside : goal.returns-then-is_outside
returns-then-is_outside c =
    sym (number_bad c.args.numbers.now [] c.loop-i.i (c.args.before + c.loop-i.i) c.loop-i-test.true (sym c.if-is_outside.ensures))
    ∙ c.loop-i.invariant

pub returns : goal.returns
unfolding first_outside
returns c = sym (numbers_end c.args.numbers.now [] c.loop-i.i (c.args.before + c.loop-i.i) c.loop-i-test.false) ∙ c.loop-i.invariant
