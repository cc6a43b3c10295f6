use Rattle.std.proofs.Common.{ℕ, refl, w64, SFits, rules}
use Rattle.arith.specs.Sums.{entry}
use Rattle.arith.proofs.Bridge.{four-listed}
use Rattle.arith.proofs.kernel.column.Goals as goal

pub returns : goal.returns
returns g c =
    let cell = λ (i : ℕ). entry c.args.m i c.args.j in
    let f0 : SFits w64 (cell 0) = search rules in
    let f1 : SFits w64 (cell 1) = search rules in
    let f2 : SFits w64 (cell 2) = search rules in
    let f3 : SFits w64 (cell 3) = search rules in
    four-listed cell f0 f1 f2 f3 refl refl refl refl
