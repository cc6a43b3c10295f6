use Rattle.std.proofs.Common.{◌≡◌, ℕ, ◌+◌, ◌-◌, ◌<◌, max, List, get_or, ℤ, pos, nat_abs, ap, ◌∙◌, arith, rules}
use Rattle.arith.proofs.FromFn.{map_listed}
use Rattle.arith.proofs.Sums.{listed_at}
use Rattle.arith.specs.Sums.{total}
use Rattle.zonotope.specs.Shape.{size}
use Rattle.zonotope.specs.Choice.{greatest, weight}
use Rattle.zonotope.proofs.choice.weight.Goals as goal

-- the weight from the four sizes and the greatest of them
weighed : (g : List ℤ) {a b c d m n k : ℕ} → a ≡ size g 0 → b ≡ size g 1 → c ≡ size g 2 → d ≡ size g 3 → m ≡ max a b → n ≡ max m c → k ≡ max n d → a + b + c + d - k ≡ weight g
unfolding greatest total
weighed g ea eb ec ed em en ek = omega arith

pub returns : goal.returns
returns c =
    let g = c.args.generator in
    let at : (i : ℕ) → i < 4 → get_or c.map.result i 0 ≡ size g i = λ i h.
    ap (λ (xs : List ℕ). get_or xs i 0) (map_listed nat_abs g 4 _ _ (pos 0) 0 (λ x y q h. search rules) c.map.ensures.items) ∙ listed_at 4 (size g) 0 i h in
    weighed g (at 0 (omega arith)) (at 1 (omega arith)) (at 2 (omega arith)) (at 3 (omega arith)) c.max.ensures c.max-2.ensures c.max-3.ensures
