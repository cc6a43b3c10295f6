use Rattle.std.proofs.Common.{◌≡◌, length, arith}
use Rattle.zonotope.specs.Choice.{FirstLeast, weights, lightest}
use Rattle.zonotope.proofs.Firsts.{lightest-first, first-least-one}
use Rattle.zonotope.proofs.choice.lightest.Goals as goal

pub returns : goal.returns
returns c =
    let gs = c.args.generators.now in
    let e : c.loop-i.i ≡ length gs = omega (arith, c.loop-i.auto.i-end, c.requires.some) in
    let f : FirstLeast (length gs) (weights gs) c.loop-i.best = rw e at c.loop-i.invariant.0 in
    record { value = first-least-one (length gs) (weights gs) c.loop-i.best (lightest gs) f (lightest-first gs c.requires.some); first = f }
