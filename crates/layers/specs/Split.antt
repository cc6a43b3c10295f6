-- Two domains of one kind, each from one half of the start.
use Rattle.std.specs.Prelude.{◌⊎◌, ℤ, Some, None, Option}
use Rattle.std.specs.Int.{int_max}
use Rattle.dynamics.specs.declared.start.Start.{Start}
use Rattle.dynamics.specs.Halves.{half_radii, lower_centres, upper_centres}
use Rattle.dynamics.proofs.Halves.{lower_limits, upper_limits}
use Rattle.domains.specs.Meaning.{Meaning}

-- the greater bound, absent if one is
abbrev pub greater : Option ℤ → Option ℤ → Option ℤ
greater None b = None
greater (Some x) None = None
greater (Some x) (Some y) = Some (int_max x y)

-- the halves of a start on its widest part
abbrev pub lower_half : Start → Start
lower_half s = record { centres = lower_centres s; radii = half_radii s; limited = lower_limits s }

abbrev pub upper_half : Start → Start
upper_half s = record { centres = upper_centres s; radii = half_radii s; limited = upper_limits s }

-- it holds what either side holds; fill gives each side its half, the other calls go to both
abbrev pub split : {F : Type 0} → Meaning F → Meaning (F × F)
split d = record {
  fits = λ f. d.fits f.0 × d.fits f.1;
  holds = λ f x. d.holds f.0 x ⊎ d.holds f.1 x;
  filled = λ s f. (d.filled (lower_half s) f.0, d.filled (upper_half s) f.1);
  advanced = λ m f. (d.advanced m f.0, d.advanced m f.1);
  bounded = λ l f. greater (d.bounded l f.0) (d.bounded l f.1);
  trimmed = λ a t f. (d.trimmed a t f.0, d.trimmed a t f.1);
}
