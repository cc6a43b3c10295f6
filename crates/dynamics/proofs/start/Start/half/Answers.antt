use Rattle.std.proofs.Common.{◌≡◌, ◌≤◌, List, length, ℤ, nat_abs, refl, rules}
use Rattle.dynamics.specs.declared.start.Start.{Start}
use Rattle.dynamics.specs.Halves.{shift, moved, half_radii}
use Rattle.dynamics.specs.Limits.{StartLimits}
use Rattle.dynamics.proofs.Halves.{half_limits, centres_made, radii_made, centre_adds, radius_subtracts}
use Rattle.dynamics.proofs.start.Start.half.Goals as goal

pub overflow_add-centres : goal.overflow_add-centres
overflow_add-centres c = centre_adds c.args.self.now c.args.part c.args.by _ c.requires.widest c.requires.near refl

pub overflow_sub-radii : goal.overflow_sub-radii
overflow_sub-radii c = radius_subtracts c.args.self.now c.args.part c.args.by c.half_radius.result c.requires.widest c.requires.near c.half_radius.ensures

-- the lists that were made keep the limits
limits : (s : Start) (d : ℤ) → nat_abs d ≤ shift s → {cs rs : List ℤ} → cs ≡ moved d s → rs ≡ half_radii s → StartLimits cs rs
limits s d n p q = rw (p, q) (half_limits s d n)

pub invariant_of-result : goal.invariant_of-result
invariant_of-result c =
    let s = c.args.self.now in
    let e : length s.centres ≡ 4 = search rules in
    let f : length s.radii ≡ 4 = search rules in record {
      limited = limits s c.args.by c.requires.near
          (centres_made s c.args.part c.args.by c.half_radius.result c.requires.widest c.requires.near c.half_radius.ensures e)
          (radii_made s c.args.part c.args.by c.half_radius.result c.requires.widest c.requires.near c.half_radius.ensures f);
    }

pub returns : goal.returns
returns c =
    let s = c.args.self.now in
    let e : length s.centres ≡ 4 = search rules in
    let f : length s.radii ≡ 4 = search rules in
    record {
      centres = centres_made s c.args.part c.args.by c.half_radius.result c.requires.widest c.requires.near c.half_radius.ensures e;
      radii = radii_made s c.args.part c.args.by c.half_radius.result c.requires.widest c.requires.near c.half_radius.ensures f;
    }
