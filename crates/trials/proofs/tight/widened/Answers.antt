use Rattle.std.proofs.Common.{◌≡◌, List, ℤ, pos, ap, ◌∙◌, w64, SFits, rules}
use Rattle.arith.specs.Sums.{part}
use Rattle.arith.proofs.Bits.{back, back_is}
use Rattle.arith.proofs.Sums.{listed_is}
use Rattle.dynamics.specs.Values.{along}
use Rattle.trials.proofs.tight.widened.Goals as goal

pub returns : goal.returns
returns c =
    listed_is 4 (along c.args.direction.now) (pos 0) c.map.result c.map.ensures.items.long
    (λ i h. let w = c.map.ensures.items.at i (pos 0) (pos 0) h in
    let f : SFits w64 (part c.entries.result i) = search rules in
    let e : part c.map.result i ≡ back (part c.entries.result i) = search rules in
    e ∙ back_is _ f ∙ ap (λ (xs : List ℤ). part xs i) c.entries.ensures)
