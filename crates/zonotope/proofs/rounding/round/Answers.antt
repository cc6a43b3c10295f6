use Rattle.std.proofs.Common.{◌≡◌, ℕ, ◌<◌, List, get_or, ℤ, pos, ap, ◌∙◌, ap₂, rules}
use Rattle.arith.specs.Rounding.{nearest, residue}
use Rattle.arith.specs.Sums.{part}
use Rattle.arith.proofs.Bridge.{listed_ext}
use Rattle.arith.proofs.FromFn.{map_listed}
use Rattle.arith.proofs.Sums.{listed_at}
use Rattle.zonotope.proofs.rounding.round.Goals as goal
use Rattle.zonotope.proofs.rounding.round.Goals.{After-map}

-- a number's nearest whole number and its residue
abbrev near_of : ℤ → ℤ × ℤ
near_of u = (nearest u, pos (residue u))

pair_is : {a b : ℤ} (y : ℤ × ℤ) → y.0 ≡ a → y.1 ≡ b → y ≡ (a, b)
pair_is y p q = ap₂ (λ (s t : ℤ). (s, t)) p q

pair_at : (c : After-map) (i : ℕ) → i < 4 → get_or c.map-rounded.result i (pos 0, pos 0) ≡ near_of (part c.args.vector i)
pair_at c i l =
    ap (λ (xs : List (ℤ × ℤ)). get_or xs i (pos 0, pos 0))
    (map_listed near_of c.args.vector 4 _ _ (pos 0) (pos 0, pos 0) (λ x y q h. search (rules, pair_is)) c.map-rounded.ensures.items)
    ∙ listed_at 4 (λ i. near_of (part c.args.vector i)) (pos 0, pos 0) i l

pub returns-clause-nearest : goal.returns-clause-nearest
returns-clause-nearest c =
    map_listed (λ (p : ℤ × ℤ). p.0) c.map-rounded.result 4 _ _ (pos 0, pos 0) (pos 0) (λ x y q h. search rules) c.map.ensures.items
    ∙ listed_ext 4 _ (λ i. nearest (part c.args.vector i)) (λ i l. ap (λ (p : ℤ × ℤ). p.0) (pair_at (goal.at.returns-clause-nearest c).After-map i l))

pub returns-clause-residues : goal.returns-clause-residues
returns-clause-residues c =
    map_listed (λ (p : ℤ × ℤ). p.1) c.map-rounded.result 4 _ _ (pos 0, pos 0) (pos 0) (λ x y q h. search rules) c.map-2.ensures.items
    ∙ listed_ext 4 _ (λ i. pos (residue (part c.args.vector i))) (λ i l. ap (λ (p : ℤ × ℤ). p.1) (pair_at (goal.at.returns-clause-residues c).After-map i l))
