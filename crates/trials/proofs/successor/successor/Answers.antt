use Rattle.std.proofs.Common.{◌≡◌, ℕ, ◌<◌, List, ℤ, pos, ap, ◌∙◌, lit<, w64, SFits, rules}
use Rattle.arith.specs.Sums.{part}
use Rattle.arith.proofs.Indices.{by4}
use Rattle.arith.proofs.Sums.{listed_at}
use Rattle.dynamics.specs.Runs.{image}
use Rattle.trials.proofs.Images.{calm_size, close_as}
use Rattle.trials.proofs.successor.successor.Goals as goal

pub image-v-requires : goal.image-v-requires
image-v-requires c = record { near = c.requires.near; calm = calm_size c.args.model.now (part c.args.gusts) c.requires.calm }

pub returns : goal.returns
returns c =
    let f = image c.args.model.now (part c.args.x) (part c.args.gusts) in
    let v = c.image-v.result in
    let is : (i : ℕ) → i < 4 → part v i ≡ f i = λ i h. ap (λ (w : List ℤ). part w i) c.image-v.ensures.value ∙ listed_at 4 f (pos 0) i h in
    let small = c.image-v.ensures.small in
    let f0 : SFits w64 c.rounded.result = search rules in
    let f1 : SFits w64 c.rounded-2.result = search rules in
    let f2 : SFits w64 c.rounded-3.result = search rules in
    let f3 : SFits w64 c.rounded-4.result = search rules in
    record {
      gust = part c.args.gusts;
      calm = c.requires.calm;
      close = by4 _
          (close_as c.rounded.result (part v 0) (f 0) f0 c.rounded.ensures.close (is 0 (lit< tt)) (small 0 (lit< tt)))
          (close_as c.rounded-2.result (part v 1) (f 1) f1 c.rounded-2.ensures.close (is 1 (lit< tt)) (small 1 (lit< tt)))
          (close_as c.rounded-3.result (part v 2) (f 2) f2 c.rounded-3.ensures.close (is 2 (lit< tt)) (small 2 (lit< tt)))
          (close_as c.rounded-4.result (part v 3) (f 3) f3 c.rounded-4.ensures.close (is 3 (lit< tt)) (small 3 (lit< tt)));
    }
