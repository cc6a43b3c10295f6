use Rattle.std.proofs.Common.{◌≡◌, ◌^◌, List, map, ℤ, pos, sym, ap, ◌∙◌, subst, le_trans, arith, lit≤}
use Rattle.arith.specs.Rounding.{nearest, residue}
use Rattle.arith.specs.Sums.{listed}
use Rattle.arith.proofs.Floor.{residue_small}
use Rattle.zonotope.specs.Advance
use Rattle.zonotope.specs.Advance.{middle_image, rounded, residues, remainder, new_axis}
use Rattle.zonotope.specs.Spread.{spread_advanced}
use Rattle.zonotope.specs.Forms.{standing, shape_of, parts_of}
use Rattle.zonotope.specs.Ranges.{Roomy}
use Rattle.zonotope.specs.Shape.{Shape, size}
use Rattle.dynamics.specs.Values.{loop}
use Rattle.std.specs.Option.{option_map}
use Rattle.zonotope.proofs.AdvanceLimits.{remainder-size, centre-size, axis-room, spread-room}
use Rattle.zonotope.proofs.Assembled.{mapped, remainder_is, axis_is}
use Rattle.zonotope.proofs.Counts.{listed_counts}
use Rattle.zonotope.proofs.Same.{shape_same}
use Rattle.zonotope.proofs.advance.advanced.Goals as goal
use Rattle.zonotope.proofs.advance.advanced.Goals.{After-round_all, After-remainder, After-absorbing_axis-radii, After-carried-spread}

-- the residues of the centre and of the images
centre_residues : (c : After-round_all) → c.round.result.1 ≡ listed 4 (λ i. pos (residue (middle_image c.args.model.now (shape_of c.args.stored.now) i)))
centre_residues c =
    mapped (middle_image c.args.model.now (shape_of c.args.stored.now)) (λ (u : ℤ). pos (residue u)) c.middle_image.result c.middle_image.ensures c.round.ensures.residues

image-residues : (c : After-round_all) → c.round_all.result.1 ≡ listed 4 (λ i. pos (residues (Advance.images c.args.model.now (shape_of c.args.stored.now)) i))
image-residues c = c.round_all.ensures.residues ∙ ap (λ (us : List (List ℤ)). listed 4 (λ i. pos (residues us i))) c.images.ensures

pub remainder-requires : goal.remainder-requires
remainder-requires c =
    let k = (goal.at.remainder-requires c).After-round_all in
    let m = c.args.model.now in
    let t = c.args.stored.now in
    record {
      centre = listed_counts (λ i. residue (middle_image m (shape_of t) i)) c.round.result.1 (2 ^ 50) (centre_residues k) (λ i h. le_trans (residue_small (middle_image m (shape_of t) i)) (lit≤ tt));
      vectors = listed_counts (residues (Advance.images m (shape_of t))) c.round_all.result.1 (2 ^ 50) (image-residues k) (λ i h. omega (arith, remainder-size m t i));
    }

-- the remainder, and the new axis part
remainder_made : (c : After-remainder) → c.round.result.1 ≡ listed 4 (λ i. pos (residue (middle_image c.args.model.now (shape_of c.args.stored.now) i)))
    → c.round_all.result.1 ≡ listed 4 (λ i. pos (residues (Advance.images c.args.model.now (shape_of c.args.stored.now)) i))
    → c.remainder.result ≡ listed 4 (λ i. pos (remainder c.args.model.now (shape_of c.args.stored.now) i))
remainder_made c p q = remainder_is c.args.model.now (shape_of c.args.stored.now) c.round.result.1 c.round_all.result.1 p q c.remainder.ensures

pub absorbing_axis-radii-requires : goal.absorbing_axis-radii-requires
absorbing_axis-radii-requires c =
    let m = c.args.model.now in
    let t = c.args.stored.now in
    let k = (goal.at.absorbing_axis-radii-requires c).After-round_all in
    listed_counts (remainder m (shape_of t)) c.remainder.result (2 ^ 30) (remainder_made c (centre_residues k) (image-residues k)) (λ i h. le_trans (remainder-size m t i) (lit≤ tt))

axis_made : (c : After-absorbing_axis-radii) → c.remainder.result ≡ listed 4 (λ i. pos (remainder c.args.model.now (shape_of c.args.stored.now) i))
    → c.absorbing_axis-radii.result.parts ≡ listed 4 (λ i. pos (new_axis c.args.model.now (shape_of c.args.stored.now) i))
axis_made c r = axis_is c.args.model.now (shape_of c.args.stored.now) c.remainder.result r c.absorbing_axis-radii.ensures

shape_is : (c : After-carried-spread) → ◌≡◌ {A = Shape} (record { centre = c.round.result.0; axis = c.absorbing_axis-radii.result.parts; generators = standing c.round_all.result.0 }) (Advance.advanced c.args.model.now (shape_of c.args.stored.now))
unfolding Advance.advanced
shape_is c =
    let m = c.args.model.now in
    let t = c.args.stored.now in
    let k = (goal.at.invariant_of-result c).After-round_all in
    let r = remainder_made (goal.at.invariant_of-result c).After-remainder (centre_residues k) (image-residues k) in
    shape_same (mapped (middle_image m (shape_of t)) nearest c.middle_image.result c.middle_image.ensures c.round.ensures.nearest)
    (axis_made (goal.at.invariant_of-result c).After-absorbing_axis-radii r)
    (c.round_all.ensures.list ∙ ap (map rounded) c.images.ensures)

pub invariant_of-result : goal.invariant_of-result
invariant_of-result c =
    let m = c.args.model.now in
    let t = c.args.stored.now in
    let e = shape_is c in
    record {
      limited = λ i h. rw (ap (λ (z : Shape). size z.centre i) e) (omega (arith, centre-size m t i h));
      roomy = subst (λ (z : Shape). Roomy 1 (2 ^ 50) z.axis z.generators) (sym e) (axis-room m t);
      spread_roomy = λ s p. subst (λ (z : Shape). Roomy 2 (2 ^ 50) s z.generators) (sym e)
          (spread-room m t t.spread s (ap (λ (z : Shape). option_map (spread_advanced (loop m) z.axis) (parts_of t.spread)) (sym e) ∙ sym c.carried-spread.ensures ∙ p));
    }

pub returns-clause-shape : goal.returns-clause-shape
returns-clause-shape c = shape_is (goal.at.returns-clause-shape c).After-carried-spread

pub returns-clause-spread : goal.returns-clause-spread
returns-clause-spread c = c.carried-spread.ensures
