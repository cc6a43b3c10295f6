use Rattle.std.proofs.Common.{◌≡◌, arith}
use Rattle.zonotope.specs.Shape.{size}
use Rattle.zonotope.specs.Choice.{FirstGreatest, longest}
use Rattle.zonotope.proofs.Firsts.{longest-first, first-greatest-one}
use Rattle.zonotope.proofs.choice.longest.Goals as goal

pub returns : goal.returns
returns c =
    let g = c.args.generator in
    let e : c.loop-i.i ≡ 4 = omega (arith, c.loop-i.auto.i-end) in
    let f : FirstGreatest 4 (size g) c.loop-i.best = rw e at c.loop-i.invariant in
    record { value = first-greatest-one 4 (size g) c.loop-i.best (longest g) f (longest-first g); first = f }
