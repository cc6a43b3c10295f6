-- The sizes of what an advance makes, before folding.
use Rattle.std.proofs.Common.{◌≡◌, ℕ, zero, suc, ◌+◌, ◌*◌, ◌^◌, ◌<◌, ◌≤◌, Bool, true, false, List, [], ◌∷◌, ◌++◌, map, length, get_or, ℤ, pos, ◌+ℤ◌, ◌*ℤ◌, nat_abs, ◌≤ℤ◌, Some, None, Option, sym, ap, ◌∙◌, mul-le-mul_right, suc-mul, arith, length-append}
use lib.ListN.{length-map}
use borrow.Author.Differences.{ints}
use Rattle.arith.specs.Rounding.{nearest}
use Rattle.arith.specs.Sums.{listed, part}
use Rattle.arith.specs.Products.{times_column}
use Rattle.arith.proofs.Floor.{floored-size, residue_small}
use Rattle.arith.proofs.Order.{triangle, abs-mul-le}
use Rattle.arith.proofs.Sums.{listed_at, length-listed}
use Rattle.dynamics.specs.declared.model.Model.{Model}
use Rattle.dynamics.specs.Values.{loop, push, middle, radius}
use Rattle.dynamics.specs.Rows.{whole, allowed, allowance}
use Rattle.dynamics.proofs.Views.{middle-size, radius-size}
use Rattle.std.specs.Option.{option_map}
use Rattle.zonotope.specs.declared.stored.Radii.{Radii}
use Rattle.zonotope.specs.declared.stored.Stored.{Stored}
use Rattle.zonotope.specs.Shape.{size, sizes}
use Rattle.zonotope.specs.Advance.{moved, columns, images, middle_image, rounded, remainder, new_axis, advanced}
use Rattle.zonotope.specs.Spread.{advanced_part, spread_advanced}
use Rattle.zonotope.specs.Forms.{standing, shape_of, parts_of}
use Rattle.zonotope.specs.Ranges.{Entries, AllEntries, Roomy}
use Rattle.zonotope.proofs.Counts.{listed-entries, listed-size, residues-size}
use Rattle.zonotope.proofs.ImageLimits.{column-size}
use Rattle.zonotope.specs.Spans.{spanned-size, size-listed}
use Rattle.zonotope.proofs.StoredLimits.{stored_entries, stored_centre}

-- ---- lists of vectors of bounded size
all_append : (n : ℕ) (xs ys : List (List ℤ)) → AllEntries n xs → AllEntries n ys → AllEntries n (xs ++ ys)
all_append n [] ys h k j = k j
all_append n (x ∷ xs) ys h k zero = h 0
all_append n (x ∷ xs) ys h k (suc j) = all_append n xs ys (λ j. h (suc j)) k j

all_listed : (b n : ℕ) (f : ℕ → List ℤ) → ((j : ℕ) → j < n → Entries b (f j)) → AllEntries b (listed n f)
unfolding listed
all_listed b zero f h j = λ i q. omega arith
all_listed b (suc n) f h zero = h 0 (omega arith)
all_listed b (suc n) f h (suc j) = all_listed b n (λ j. f (suc j)) (λ j q. h (suc j) (omega arith)) j

all_map : (b n : ℕ) (f : List ℤ → List ℤ) → ((g : List ℤ) → Entries n g → Entries b (f g)) → (gs : List (List ℤ)) → AllEntries n gs → AllEntries b (map f gs)
all_map b n f h [] k j = λ i q. omega arith
all_map b n f h (g ∷ gs) k zero = h g (k 0)
all_map b n f h (g ∷ gs) k (suc j) = all_map b n f h gs (λ j. k (suc j)) j

-- ---- the images
columns-entries : (n : ℕ) (a : ℕ → ℕ → ℤ) (k : ℕ → ℕ) → ((i j : ℕ) → i < 4 → j < n → nat_abs (a i j) ≤ 2 ^ 20) → ((j : ℕ) → j < n → k j ≤ 2 ^ 30) → AllEntries (2 ^ 52) (columns n a k)
columns-entries n a k h s =
    all_listed (2 ^ 52) n (λ j. listed 4 (λ i. pos (k j) *ℤ a i j))
    (λ j q. listed-entries (λ i. pos (k j) *ℤ a i j) (2 ^ 52) (λ i r. omega (arith, abs-mul-le (pos (k j)) (a i j) (2 ^ 30) (2 ^ 20) (s j q) (h i j r q))))

pub images-entries : (m : Model) (t : Stored) → AllEntries (2 ^ 52) (images m (shape_of t))
unfolding images
images-entries m t =
    all_append (2 ^ 52) (map (moved (loop m)) (standing t.generators)) _
    (all_map (2 ^ 52) (2 ^ 30) (moved (loop m)) (λ g h. listed-entries (times_column 4 (loop m) (part g)) (2 ^ 52) (λ i q. column-size 4 m.matrix (part g) (2 ^ 30) m.entered h i q)) (standing t.generators) (stored_entries t))
    (all_append (2 ^ 52) (columns 4 (loop m) (size t.axis.parts)) _
    (columns-entries 4 (loop m) (size t.axis.parts) m.entered (λ j q. (t.axis.limited j q).1))
    (columns-entries 2 (push m) (radius m) m.gained (λ j q. omega (arith, radius-size m j q))))

pub images_few : (m : Model) (t : Stored) → length (images m (shape_of t)) ≤ 22
unfolding images
images_few m t =
    let gs = map (moved (loop m)) (standing t.generators) in
    let a = columns 4 (loop m) (size t.axis.parts) in
    let b = columns 2 (push m) (radius m) in
    omega (
      arith,
      length-append gs (a ++ b),
      length-append a b,
      length-map (standing t.generators) (moved (loop m)),
      length-listed 4 (λ j. listed 4 (λ i. pos (size t.axis.parts j) *ℤ loop m i j)),
      length-listed 2 (λ j. listed 4 (λ i. pos (radius m j) *ℤ push m i j)),
      t.few,
    )

-- ---- rounding
nearest-size : (u : ℤ) → nat_abs u ≤ 2 ^ 53 → nat_abs (nearest u) ≤ 2 ^ 41 + 1
nearest-size u h = floored-size (u +ℤ pos 2048) (2 ^ 41 + 1) (omega (arith, triangle u (pos 2048)))

sizes-rounded : (us : List (List ℤ)) (i : ℕ) → i < 4 → ((j : ℕ) → size (get_or us j []) i ≤ 2 ^ 52) → sizes (map rounded us) i ≤ length us * (2 ^ 41 + 1)
sizes-rounded [] i q h = omega arith
sizes-rounded (u ∷ us) i q h =
    rw (listed_at 4 (λ i. nearest (part u i)) (pos 0) i q)
    (omega (arith, nearest-size (part u i) (omega (arith, h 0)), sizes-rounded us i q (λ j. h (suc j)), suc-mul (length us) (2 ^ 41 + 1)))

middle-image-size : (m : Model) (t : Stored) (i : ℕ) → i < 4 → nat_abs (middle_image m (shape_of t) i) ≤ 2 ^ 53
middle-image-size m t i q =
    let p = column-size 4 m.matrix (part t.centre) (2 ^ 30) m.entered (stored_centre t) i q in
    let r = column-size 2 m.gains (middle m) (2 ^ 24) m.gained (middle-size m) i q in
    omega (arith, triangle (times_column 4 (loop m) (part t.centre) i) (times_column 2 (push m) (middle m) i))

pub allowance-size : (m : Model) (i : ℕ) → allowance m i ≤ 4095
allowance-size m i = go (whole m i)
  where
    go : (b : Bool) → allowed b ≤ 4095
    go true = omega arith
    go false = omega arith

pub remainder-size : (m : Model) (t : Stored) (i : ℕ) → remainder m (shape_of t) i ≤ 2 ^ 20
remainder-size m t i =
    omega (arith, residue_small (middle_image m (shape_of t) i), residues-size (images m (shape_of t)) i, images_few m t, mul-le-mul_right 2048 (images_few m t), allowance-size m i)

pub new_axis-size : (m : Model) (t : Stored) (i : ℕ) → new_axis m (shape_of t) i ≤ 2 ^ 20
new_axis-size m t i = omega (arith, remainder-size m t i)

-- ---- the shape before folding
pub centre-size : (m : Model) (t : Stored) (i : ℕ) → i < 4 → size (advanced m (shape_of t)).centre i ≤ 2 ^ 42
unfolding advanced
centre-size m t i q = rw (listed_at 4 (λ i. nearest (middle_image m (shape_of t) i)) (pos 0) i q) (omega (arith, nearest-size (middle_image m (shape_of t) i) (middle-image-size m t i q)))

pub axis-size : (m : Model) (t : Stored) (i : ℕ) → i < 4 → size (advanced m (shape_of t)).axis i ≤ 2 ^ 20
unfolding advanced
axis-size m t i q = rw (size-listed (new_axis m (shape_of t)) i q) (new_axis-size m t i)

pub generators_size : (m : Model) (t : Stored) (i : ℕ) → i < 4 → sizes (advanced m (shape_of t)).generators i ≤ 2 ^ 46
unfolding advanced
generators_size m t i q =
    omega (arith, sizes-rounded (images m (shape_of t)) i q (λ j. images-entries m t j i q), mul-le-mul_right (2 ^ 41 + 1) (images_few m t))

-- there is room to fold
spread_size : (m : Model) (t : Stored) (w : Radii) (i : ℕ) → i < 4 → advanced_part (loop m) (advanced m (shape_of t)).axis w.parts i ≤ 2 ^ 42
spread_size m t w i q = omega (arith, spanned-size (loop m i) (size w.parts) (λ j r. m.entered i j q r) (λ j r. (w.limited j r).1), axis-size m t i q)

axis_count : (m : Model) (t : Stored) (i : ℕ) → i < 4 → pos 0 ≤ℤ part (advanced m (shape_of t)).axis i
unfolding advanced
axis_count m t i q = rw (listed_at 4 (λ i. pos (new_axis m (shape_of t) i)) (pos 0) i q) (omega (arith, ints))

pub axis-room : (m : Model) (t : Stored) → Roomy 1 (2 ^ 50) (advanced m (shape_of t)).axis (advanced m (shape_of t)).generators
axis-room m t i q = (axis_count m t i q, omega (arith, axis-size m t i q, generators_size m t i q))

pub spread-room : (m : Model) (t : Stored) (o : Option Radii) (s : List ℤ) → option_map (spread_advanced (loop m) (advanced m (shape_of t)).axis) (parts_of o) ≡ Some s → Roomy 2 (2 ^ 50) s (advanced m (shape_of t)).generators
unfolding spread_advanced
spread-room m t None s e = absurd cc
spread-room m t (Some w) s e =
    let f = advanced_part (loop m) (advanced m (shape_of t)).axis w.parts in
    let same : listed 4 (λ i. pos (f i)) ≡ s = cc in
    λ i q. (
      rw (ap (λ (xs : List ℤ). part xs i) (sym same) ∙ listed_at 4 (λ i. pos (f i)) (pos 0) i q) (omega (arith, ints)),
      rw (listed-size f s i (sym same) q) (omega (arith, spread_size m t w i q, generators_size m t i q)),
    )
