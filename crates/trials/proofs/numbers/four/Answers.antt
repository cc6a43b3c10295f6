use Rattle.std.proofs.Common.{◌≡◌, ℕ, ◌+◌, refl, ap, arith, w64, SFits, rules}
use Rattle.arith.specs.Sums.{part}
use Rattle.arith.proofs.Bridge.{four-listed}
use Rattle.trials.proofs.numbers.four.Goals as goal

pub returns : goal.returns
returns c =
    let n = part c.args.numbers in
    let k = c.args.from in
    let f0 : SFits w64 (n k) = search rules in
    let f1 : SFits w64 (n (k + 1)) = search rules in
    let f2 : SFits w64 (n (k + 2)) = search rules in
    let f3 : SFits w64 (n (k + 3)) = search rules in
    let e : k ≡ k + 0 = omega arith in
    four-listed (λ (i : ℕ). n (k + i)) f0 f1 f2 f3 (ap n e) refl refl refl
