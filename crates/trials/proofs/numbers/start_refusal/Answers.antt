use Rattle.std.proofs.Common.{◌≡◌, [], ◌∷◌, ℤ, ap, ◌∙◌, w64, SFits, rules}
use Rattle.std.specs.Option.{option_map}
use Rattle.arith.specs.Sums.{part}
use Rattle.arith.proofs.Bits.{back, back_is}
use Rattle.dynamics.specs.Refusals.{start_refusal}
use Rattle.trials.specs.Numbers.{told, start_told}
use Rattle.trials.proofs.Refused.{told_as}
use Rattle.trials.proofs.numbers.start_refusal.Goals as goal

-- four numbers that were read
four : (a b c d : ℤ) → SFits w64 a → SFits w64 b → SFits w64 c → SFits w64 d → back a ∷ (back b ∷ (back c ∷ (back d ∷ []))) ≡ a ∷ (b ∷ (c ∷ (d ∷ [])))
four a b c d f g h k = λ i. back_is a f i ∷ (back_is b g i ∷ (back_is c h i ∷ (back_is d k i ∷ [])))

pub returns : goal.returns
unfolding start_told
returns c =
    let z = part c.args.n in
    let f0 : SFits w64 (z 0) = search rules in
    let f1 : SFits w64 (z 1) = search rules in
    let f2 : SFits w64 (z 2) = search rules in
    let f3 : SFits w64 (z 3) = search rules in
    let f4 : SFits w64 (z 4) = search rules in
    let f5 : SFits w64 (z 5) = search rules in
    let f6 : SFits w64 (z 6) = search rules in
    let f7 : SFits w64 (z 7) = search rules in
    let us = four (z 0) (z 2) (z 4) (z 6) f0 f2 f4 f6 in
    let vs = four (z 1) (z 3) (z 5) (z 7) f1 f3 f5 f7 in
    ap (option_map told) c.err.ensures.value ∙ told_as c.new.result _ _ (λ s h. h.0) c.new.ensures.value ∙ (λ i. start_refusal (us i) (vs i))
