use Rattle.std.proofs.Common.{◌≤◌, length, arith}
use Rattle.zonotope.specs.Forms.{standing}
use Rattle.zonotope.proofs.Folds.{folds-more, folds_all}
use Rattle.zonotope.proofs.fold.Folding.reduce.Goals as goal

pub loop-self-preserved : goal.loop-self-preserved
loop-self-preserved c =
    folds-more c.args.self.now c.loop-self.self c.fold.new.self (omega (arith, c.len.ensures.items, c.loop-self-test.true)) c.fold.ensures.shape c.fold.ensures.spread c.loop-self.invariant

pub returns : goal.returns
returns c =
    let few : length (standing c.loop-self.self.generators) ≤ 16 = omega (arith, c.len.ensures.items, c.loop-self-test.false) in
    let all = folds_all c.args.self.now c.loop-self.self few c.loop-self.invariant in
    record { shape = all.shape; spread = all.spread; few = few }
