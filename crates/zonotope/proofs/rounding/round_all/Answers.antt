use Rattle.std.proofs.Common.{◌≡◌, ℕ, ◌+◌, ◌^◌, ◌≤◌, List, [], map, length, get_or, take, ℤ, pos, refl, ap, ◌∙◌, le_trans, arith, lit≤, length-take}
use Rattle.std.proofs.lemmas.List.{take_all}
use Rattle.arith.specs.Rounding.{residue}
use Rattle.arith.specs.Sums.{part, listed}
use Rattle.arith.proofs.Floor.{residue_small}
use Rattle.zonotope.specs.Forms.{Generators, standing}
use Rattle.zonotope.specs.Advance.{rounded, residues}
use Rattle.zonotope.proofs.Counts.{listed-size, listed_counts, counts_entries, grown_is, residues-size}
use Rattle.zonotope.specs.Grown.{map_pushed, residues-next}
use Rattle.zonotope.proofs.StoredLimits.{standing_none}
use Rattle.zonotope.proofs.rounding.round_all.Goals as goal

pub loop-image-init : goal.loop-image-init
unfolding listed
loop-image-init c = (standing_none c.new-rounded.result c.new-rounded.ensures, c.new-rounded.ensures, refl)

few : (g : Generators) {xs : List (List ℤ)} → xs ≡ standing g → length xs ≤ 22
few g e = omega (arith, ap length e, length-take g.len g.storage, g.room)

pub push-requires : goal.push-requires
push-requires c = omega (arith, few c.args.images.now c.as_slice-image-items.ensures, c.loop-image.invariant.1)

some_residues : (us : List (List ℤ)) (k i : ℕ) → length us ≤ 22 → residues (take k us) i ≤ 2 ^ 61
some_residues us k i h = omega (arith, residues-size (take k us) i, length-take k us)

pub grown-total-requires : goal.grown-total-requires
grown-total-requires c =
    let us = c.as_slice-image-items.result.now in
    let k = c.loop-image.image-index in
    record {
      counts = listed_counts (residues (take k us)) c.loop-image.sums (2 ^ 61) c.loop-image.invariant.2 (λ i h. some_residues us k i (few c.args.images.now c.as_slice-image-items.ensures));
      entries = counts_entries (2 ^ 61) c.round.result.1 (listed_counts (λ i. residue (part (get_or us k []) i)) c.round.result.1 (2 ^ 61) c.round.ensures.residues
          (λ i h. le_trans (residue_small (part (get_or us k []) i)) (lit≤ tt)));
    }

pub loop-image-preserved : goal.loop-image-preserved
loop-image-preserved c =
    let us = c.as_slice-image-items.result.now in
    let k = c.loop-image.image-index in
    let h = c.loop-image-test.true in (
      map_pushed rounded [] us k _ h c.push.ensures.list c.loop-image.invariant.0 c.round.ensures.nearest,
      omega (arith, c.push.ensures.len, c.loop-image.invariant.1),
      c.grown-total.ensures ∙ grown_is c.loop-image.sums c.round.result.1 (residues (take (k + 1) us))
          (λ i q. omega (arith, residues-next us k i h, listed-size (residues (take k us)) c.loop-image.sums i c.loop-image.invariant.2 q, listed-size (λ i. residue (part (get_or us k []) i)) c.round.result.1 i c.round.ensures.residues q)),
    )

pub returns : goal.returns
returns c =
    let us = c.as_slice-image-items.result.now in
    let e = take_all c.loop-image.image-index us c.loop-image-test.false ∙ c.as_slice-image-items.ensures in
    record {
      list = c.loop-image.invariant.0 ∙ ap (map rounded) e;
      residues = c.loop-image.invariant.2 ∙ ap (λ (xs : List (List ℤ)). listed 4 (λ i. pos (residues xs i))) e;
    }
