-- The reduced product of two domains.
use Rattle.std.specs.Prelude.{List, [], ◌∷◌, ℤ, Some, None, Option}
use Rattle.std.specs.Int.{int_min}
use Rattle.domains.specs.declared.axis.SignedAxis.{SignedAxis}
use Rattle.domains.specs.AllAxes.{all_axes}
use Rattle.domains.specs.Axes.{axis}
use Rattle.domains.specs.Meaning.{Meaning}

-- the lesser present bound, absent if both are
abbrev pub lesser : Option ℤ → Option ℤ → Option ℤ
lesser None b = b
lesser (Some x) None = Some x
lesser (Some x) (Some y) = Some (int_min x y)

-- cut goes to both sides; an absent limit cuts nothing
abbrev pub cut_both : {P Q : Type 0} → Meaning P → Meaning Q → SignedAxis → Option ℤ → P × Q → P × Q
cut_both p q a None f = f
cut_both p q a (Some t) f = (p.trimmed a t f.0, q.trimmed a t f.1)

-- the lesser bound on an axis, as both sides answer it now, cuts both
abbrev pub narrowed : {P Q : Type 0} → Meaning P → Meaning Q → SignedAxis → P × Q → P × Q
narrowed p q a f = cut_both p q a (lesser (p.bounded (axis a.index) f.0) (q.bounded (axis a.index) f.1)) f

-- the same for each axis of a list, in order
unfoldable pub narrowed_by : {P Q : Type 0} → Meaning P → Meaning Q → List SignedAxis → P × Q → P × Q
narrowed_by p q [] f = f
narrowed_by p q (a ∷ as') f = narrowed_by p q as' (narrowed p q a f)

-- the signed axes 0 to 7 in order
abbrev pub reduced : {P Q : Type 0} → Meaning P → Meaning Q → P × Q → P × Q
reduced p q f = narrowed_by p q all_axes f

-- it holds what both sides hold; fill and advance go to both sides, and then the bounds cut both
abbrev pub product : {P Q : Type 0} → Meaning P → Meaning Q → Meaning (P × Q)
product p q = record {
  fits = λ f. p.fits f.0 × q.fits f.1;
  holds = λ f x. p.holds f.0 x × q.holds f.1 x;
  filled = λ s f. reduced p q (p.filled s f.0, q.filled s f.1);
  advanced = λ m f. reduced p q (p.advanced m f.0, q.advanced m f.1);
  bounded = λ l f. lesser (p.bounded l f.0) (q.bounded l f.1);
  trimmed = λ a t f. (p.trimmed a t f.0, q.trimmed a t f.1);
}
