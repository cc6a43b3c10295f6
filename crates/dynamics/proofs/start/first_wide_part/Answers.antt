use Rattle.std.proofs.Common.{◌≡◌, ℕ, suc, ◌+◌, ◌-◌, ◌^◌, sym, ap, ◌∙◌, arith, w64, SFits, rules}
use Rattle.std.proofs.lemmas.Bool.{cond-true, cond-false}
use Rattle.arith.specs.Sums.{part}
use Rattle.dynamics.specs.Ranges.{too_large}
use Rattle.dynamics.specs.Refusals.{first_passing}
use Rattle.dynamics.proofs.Checks.{large_passed}
use Rattle.dynamics.proofs.start.first_wide_part.Goals as goal

pub loop-i-preserved : goal.loop-i-preserved
unfolding first_passing
loop-i-preserved c =
    let i = c.loop-i.i in
    let p = c.args.centres in
    let w = c.args.radii in
    let f : SFits w64 (part p i) = search rules in
    let g : SFits w64 (part w i) = search rules in
    let n : 4 - i ≡ suc (4 - (i + 1)) = omega arith in
    let t = λ (k : ℕ). too_large (2 ^ 30) (part p k) (part w k) in
    sym (ap (λ n. first_passing i n t) n ∙ cond-false _ _ _ (large_passed (2 ^ 30) (part p i) (part w i) f g c.if-is_too_large.ensures)) ∙ c.loop-i.invariant

pub returns-then-is_too_large : goal.returns-then-is_too_large
unfolding first_passing
returns-then-is_too_large c =
    let i = c.loop-i.i in
    let p = c.args.centres in
    let w = c.args.radii in
    let f : SFits w64 (part p i) = search rules in
    let g : SFits w64 (part w i) = search rules in
    let n : 4 - i ≡ suc (4 - (i + 1)) = omega arith in
    let t = λ (k : ℕ). too_large (2 ^ 30) (part p k) (part w k) in
    record {
      value = sym (ap (λ n. first_passing i n t) n ∙ cond-true _ _ _ (large_passed (2 ^ 30) (part p i) (part w i) f g c.if-is_too_large.ensures)) ∙ c.loop-i.invariant;
      below = c.loop-i-test.true;
    }

pub returns : goal.returns
unfolding first_passing
returns c =
    let n : 0 ≡ 4 - c.loop-i.i = omega arith in
    record {
      value = ap (λ n. first_passing c.loop-i.i n (λ k. too_large (2 ^ 30) (part c.args.centres k) (part c.args.radii k))) n ∙ c.loop-i.invariant;
      below = tt;
    }
