use Rattle.std.proofs.Common.{◌≡◌, [], ◌∷◌, ap, ◌∙◌}
use Rattle.std.specs.Option.{option_map}
use Rattle.dynamics.specs.Refusals.{model_refusal}
use Rattle.trials.specs.Numbers.{told, model_told, matrix_of, channel_of}
use Rattle.trials.proofs.Refused.{told_as}
use Rattle.trials.proofs.numbers.model_refusal.Goals as goal

pub returns : goal.returns
unfolding model_told
returns c =
    let z = c.args.numbers in
    let rows = c.four.result ∷ (c.four-2.result ∷ (c.four-3.result ∷ (c.four-4.result ∷ []))) in
    let first = c.channel.result in
    let second = c.channel-2.result in
    let f = c.channel.ensures in
    let g = c.channel-2.ensures in
    let a : rows ≡ matrix_of z = λ i. c.four.ensures i ∷ (c.four-2.ensures i ∷ (c.four-3.ensures i ∷ (c.four-4.ensures i ∷ []))) in
    let b : first ≡ channel_of z 16 = λ i. record { gains = f.0 i; centre = f.1 i; radius = f.2 i } in
    let d : second ≡ channel_of z 22 = λ i. record { gains = g.0 i; centre = g.1 i; radius = g.2 i } in
    ap (option_map told) c.err.ensures.value ∙ told_as c.new.result (model_refusal rows first second) _ (λ m h. h.0) c.new.ensures.value
    ∙ (λ i. model_refusal (a i) (b i) (d i))
