use Rattle.std.proofs.Common.{[], ◌∷◌}
use Rattle.arith.proofs.Indices.{by2}
use Rattle.trials.specs.Kinds.{gust_size}
use Rattle.trials.proofs.Sampled.{gust_sizes}
use Rattle.trials.proofs.sample.draw_model.Goals as goal

pub returns : goal.returns
returns c =
    let a = c.draw_channel-first.result in
    let b = c.draw_channel-second.result in
    gust_sizes c.new.result (gust_size c.args.kind) (a.centre ∷ (b.centre ∷ [])) (a.radius ∷ (b.radius ∷ [])) _ _ (λ m h. (h.3, h.4)) c.new.ensures.value
    (by2 _ c.draw_channel-first.ensures.1 c.draw_channel-second.ensures.1)
