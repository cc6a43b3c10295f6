use Rattle.std.proofs.Common.{[], ◌∷◌, w64, SFits, rules}
use Rattle.arith.proofs.Bits.{back}
use Rattle.arith.proofs.Indices.{by4}
use Rattle.trials.specs.Kinds.{start_size}
use Rattle.trials.proofs.Sampled.{paired, start_sizes}
use Rattle.trials.proofs.sample.draw_start.Goals as goal

pub returns : goal.returns
returns c =
    let n = start_size c.args.kind in
    let a = c.draw_pair-a.result in
    let b = c.draw_pair-b.result in
    let d = c.draw_pair-c.result in
    let e = c.draw_pair-d.result in
    let l = c.start-limit.result in
    let fl : SFits w64 l = search rules in
    let a0 : SFits w64 a.centre = search rules in
    let a1 : SFits w64 a.radius = search rules in
    let b0 : SFits w64 b.centre = search rules in
    let b1 : SFits w64 b.radius = search rules in
    let d0 : SFits w64 d.centre = search rules in
    let d1 : SFits w64 d.radius = search rules in
    let e0 : SFits w64 e.centre = search rules in
    let e1 : SFits w64 e.radius = search rules in
    let v = c.start-limit.ensures.value in
    start_sizes c.new.result n (back a.centre ∷ (back b.centre ∷ (back d.centre ∷ (back e.centre ∷ [])))) (back a.radius ∷ (back b.radius ∷ (back d.radius ∷ (back e.radius ∷ []))))
    _ _ (λ s h. (h.1, h.2)) c.new.ensures.value
    (by4 _ (paired a.centre a.radius l n a0 a1 fl v c.draw_pair-a.ensures.1) (paired b.centre b.radius l n b0 b1 fl v c.draw_pair-b.ensures.1)
    (paired d.centre d.radius l n d0 d1 fl v c.draw_pair-c.ensures.1) (paired e.centre e.radius l n e0 e1 fl v c.draw_pair-d.ensures.1))
