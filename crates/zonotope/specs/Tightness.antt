-- How far a bound may exceed the exact support number.
use Rattle.std.specs.Prelude.{◌≡◌, ℕ, zero, suc, ◌+◌, ◌*◌, ◌/◌, ◌^◌, ◌<◌, ◌≤◌, Bool, true, false, List, [], ◌∷◌, ◌++◌, map, ℤ, pos, negsuc, ◌+ℤ◌, ◌-ℤ◌, ◌*ℤ◌, neg_ℤ, ◌≤ℤ◌, ◌==◌, slice_index_or, remove, unsigned_abs, refl}
use Rattle.std.proofs.Common.{ap, ap₂, ◌∙◌, mul-add, mul-le-mul_left, mul_left_comm, mul_comm, mul_assoc, pow-suc, arith}
use Rattle.std.proofs.Math.Dec.{eqb-zero-suc, eqb-suc-zero, eqb-suc-suc}
use Rattle.std.proofs.lemmas.Int.{ints}
use Rattle.arith.proofs.Ring
use Rattle.arith.proofs.Ring.{linear}
use Rattle.arith.proofs.Order.{triangle, abs-mul, mul-le-pos}
use Rattle.arith.specs.Rounding.{nearest, residue}
use Rattle.arith.specs.Sums.{sum, total, listed, part}
use Rattle.arith.specs.Products.{dot, times_column, spanned}
use Rattle.arith.proofs.Sums.{listed_at, sum-abs, total-le, total_ext, total-mul, total_swap}
use Rattle.arith.proofs.Dots.{dot-add, dot-mul, dot-zero, dot-size, dot-through, spanned-mul}
use Rattle.arith.proofs.Bridge.{dot-listed}
use Rattle.dynamics.specs.declared.model.Model.{Model}
use Rattle.dynamics.specs.declared.start.Start.{Start}
use Rattle.dynamics.specs.Values.{loop, push, middle, radius}
use Rattle.dynamics.specs.Support.{through, gusts, exact}
use Rattle.dynamics.proofs.Step.{image-dot}
use Rattle.zonotope.specs.Shape.{Shape, size, reaches, bound}
use Rattle.zonotope.specs.Advance.{moved, images, rounded, residues, middle_image, new_axis, advanced}
use Rattle.zonotope.specs.Fold.{folded}
use Rattle.zonotope.specs.Spread.{spread_advanced, charged, added, spread_folded}
use Rattle.zonotope.specs.Tight.{Tight}
use Rattle.zonotope.specs.Spans.{spanned-le, spanned-add, spanned-listed}

-- ---- the images before rounding reach exactly as far as the form did, and the gusts
reaches-append : (l : ℕ → ℤ) (gs hs : List (List ℤ)) → reaches l (gs ++ hs) ≡ reaches l gs + reaches l hs
reaches-append l [] hs = omega arith
reaches-append l (g ∷ gs) hs = let e = reaches-append l gs hs in omega arith

reaches-listed : (n : ℕ) (l : ℕ → ℤ) (u : ℕ → List ℤ) → reaches l (listed n u) ≡ total n (λ j. unsigned_abs (dot l (part (u j))))
unfolding listed total
reaches-listed zero l u = refl
reaches-listed (suc n) l u = ap (λ (z : ℕ). unsigned_abs (dot l (part (u 0))) + z) (reaches-listed n l (λ j. u (suc j)))

reaches-moved : (m : Model) (l : ℕ → ℤ) (gs : List (List ℤ)) → reaches l (map (moved (loop m)) gs) ≡ reaches (through m l) gs
reaches-moved m l [] = refl
reaches-moved m l (g ∷ gs) =
    ap₂ ◌+◌ (ap unsigned_abs (dot-listed l (times_column 4 (loop m) (part g)) ∙ dot-through 4 l (loop m) (part g))) (reaches-moved m l gs)

-- columns, each k_j times column j
reaches-columns : (n : ℕ) (l : ℕ → ℤ) (a : ℕ → ℕ → ℤ) (k : ℕ → ℕ) → reaches l (listed n (λ j. listed 4 (λ i. pos (k j) *ℤ a i j)))
    ≡ total n (λ j. unsigned_abs (sum 4 (λ i. l i *ℤ a i j)) * k j)
reaches-columns n l a k =
    reaches-listed n l (λ j. listed 4 (λ i. pos (k j) *ℤ a i j))
    ∙ total_ext n (λ j. unsigned_abs (dot l (part (listed 4 (λ i. pos (k j) *ℤ a i j))))) (λ j. unsigned_abs (sum 4 (λ i. l i *ℤ a i j)) * k j)
    (λ j h. ap unsigned_abs (dot-listed l (λ i. pos (k j) *ℤ a i j) ∙ dot-mul l (pos (k j)) (λ i. a i j)) ∙ abs-mul (pos (k j)) (dot l (λ i. a i j))
    ∙ mul_comm (k j) (unsigned_abs (dot l (λ i. a i j))))

images_reach : (m : Model) (z : Shape) (l : ℕ → ℤ)
    → dot l (middle_image m z) +ℤ pos (reaches l (images m z)) ≡ bound (through m l) z +ℤ gusts m l
unfolding images
images_reach m z l =
    let e0 = image-dot m (part z.centre) (middle m) l in
    let e1 = reaches-append l (map (moved (loop m)) z.generators) (listed 4 (λ j. listed 4 (λ i. pos (size z.axis j) *ℤ loop m i j)) ++ listed 2 (λ j. listed 4 (λ i. pos (radius m j) *ℤ push m i j))) in
    let e2 = reaches-append l (listed 4 (λ j. listed 4 (λ i. pos (size z.axis j) *ℤ loop m i j))) (listed 2 (λ j. listed 4 (λ i. pos (radius m j) *ℤ push m i j))) in
    let e3 = reaches-moved m l z.generators in
    let e4 = reaches-columns 4 l (loop m) (size z.axis) in
    let e5 = reaches-columns 2 l (push m) (radius m) in
    omega (arith, linear)

-- ---- what rounding moves
dot-rounded : (l u v : ℕ → ℤ) (a : ℕ → ℕ) → ((i : ℕ) → i < 4 → unsigned_abs (u i -ℤ pos 4096 *ℤ v i) ≤ a i) → unsigned_abs (dot l u -ℤ pos 4096 *ℤ dot l v) ≤ spanned l a
dot-rounded l u v a h =
    let t = dot-size l (λ i. u i +ℤ negsuc 4095 *ℤ v i) a (λ i k. omega (arith, ints, h i k)) in
    let e = dot-add l u (λ i. negsuc 4095 *ℤ v i) in
    let e1 = dot-mul l (negsuc 4095) v in
    omega (arith, ints)

-- |a| and 4096 |b| are as near as a and 4096 b
reaches-rounded : (l : ℕ → ℤ) (us : List (List ℤ)) → unsigned_abs (pos (reaches l us) -ℤ pos 4096 *ℤ pos (reaches l (map rounded us))) ≤ spanned l (residues us)
reaches-rounded l [] = omega arith
reaches-rounded l (u ∷ us) =
    let t = dot-rounded l (part u) (part (rounded u)) (λ i. residue (part u i)) (λ i k. rw (listed_at 4 (λ i. nearest (part u i)) (pos 0) i k) (omega arith)) in
    let s = reaches-rounded l us in
    let e = spanned-add l (λ i. residue (part u i)) (residues us) in
    omega (arith, ints)

-- 4096 h is at least b, by no more than 4096 e
pub record Lifted (b h : ℤ) (e : ℕ) : Type 0 where
  pub low : b ≤ℤ (pos 4096 *ℤ h)
  pub high : (pos 4096 *ℤ h) ≤ℤ (b +ℤ pos (4096 * e))

gathered : (u b c : ℤ) (r s d t1 t2 : ℕ) → u +ℤ pos r ≡ b → unsigned_abs (u -ℤ pos 4096 *ℤ c) ≤ t1 → unsigned_abs (pos r -ℤ pos 4096 *ℤ pos s) ≤ t2 → t1 + t2 ≤ 4096 * d
    → Lifted b (c +ℤ pos (d + s)) (2 * d)
gathered u b c r s d t1 t2 e p q h = record { low = omega (arith, ints); high = omega (arith, ints) }

-- one advance: the new bound against the old one in the direction carried back
pub lifted : (m : Model) (z : Shape) (l : ℕ → ℤ) → Lifted (bound (through m l) z +ℤ gusts m l) (bound l (advanced m z)) (2 * spanned l (new_axis m z))
unfolding advanced
lifted m z l =
    rw (dot-listed l (λ i. nearest (middle_image m z i)), spanned-listed l (new_axis m z))
    (gathered (dot l (middle_image m z)) (bound (through m l) z +ℤ gusts m l) (dot l (λ i. nearest (middle_image m z i)))
    (reaches l (images m z)) (reaches l (map rounded (images m z))) (spanned l (new_axis m z))
    (spanned l (λ i. residue (middle_image m z i))) (spanned l (residues (images m z)))
    (images_reach m z l)
    (dot-rounded l (middle_image m z) (λ i. nearest (middle_image m z i)) (λ i. residue (middle_image m z i)) (λ i k. omega arith))
    (reaches-rounded l (images m z))
    (omega (
      arith,
      spanned-add l (λ i. residue (middle_image m z i)) (residues (images m z)),
      spanned-mul l 4096 (new_axis m z),
      spanned-le l (λ i. residue (middle_image m z i) + residues (images m z) i) (λ i. 4096 * new_axis m z i) (λ i k. omega arith),
    )))

-- ---- the spread
through_spread : (m : Model) (l : ℕ → ℤ) (s : ℕ → ℕ) → spanned (through m l) s ≤ spanned l (λ i. total 4 (λ j. unsigned_abs (loop m i j) * s j))
through_spread m l s =
    let t = total-le 4 (λ j. unsigned_abs (through m l j) * s j) (λ j. total 4 (λ i. s j * unsigned_abs (l i *ℤ loop m i j)))
    (λ j h. rw (total-mul 4 (s j) (λ i. unsigned_abs (l i *ℤ loop m i j)), mul_comm (unsigned_abs (through m l j)) (s j)) (mul-le-mul_left (s j) (sum-abs 4 (λ i. l i *ℤ loop m i j)))) in
    let e = total_swap 4 4 (λ j i. s j * unsigned_abs (l i *ℤ loop m i j)) in
    let e1 = total_ext 4 (λ i. total 4 (λ j. s j * unsigned_abs (l i *ℤ loop m i j))) (λ i. unsigned_abs (l i) * total 4 (λ j. unsigned_abs (loop m i j) * s j))
    (λ i h. total_ext 4 (λ j. s j * unsigned_abs (l i *ℤ loop m i j)) (λ j. unsigned_abs (l i) * (unsigned_abs (loop m i j) * s j))
    (λ j k. ap (λ (t : ℕ). s j * t) (abs-mul (l i) (loop m i j)) ∙ mul_comm (s j) (unsigned_abs (l i) * unsigned_abs (loop m i j)) ∙ mul_assoc (unsigned_abs (l i)) (unsigned_abs (loop m i j)) (s j))
    ∙ total-mul 4 (unsigned_abs (l i)) (λ j. unsigned_abs (loop m i j) * s j)) in
    omega arith

-- one step of the exact number
stepped : (n : ℕ) (t b g h : ℤ) (e d a : ℕ) → t ≤ℤ (pos n *ℤ b) → (pos n *ℤ b) ≤ℤ (t +ℤ pos (n * e)) → Lifted (b +ℤ g) h a → e ≤ 4096 * d
    → ((t +ℤ pos n *ℤ g) ≤ℤ (pos (n * 4096) *ℤ h)) × ((pos (n * 4096) *ℤ h) ≤ℤ (t +ℤ pos n *ℤ g +ℤ pos (n * 4096 * (d + a))))
stepped n t b g h e d a p q r k =
    let e1 = Ring.mul-add (pos n) b g in
    let e2 = Ring.mul_assoc (pos n) (pos 4096) h in
    let t1 = mul-le-pos n (b +ℤ g) (pos 4096 *ℤ h) r.low in
    let t2 = mul-le-pos n (pos 4096 *ℤ h) (b +ℤ g +ℤ pos (4096 * a)) r.high in
    let e3 = Ring.mul-add (pos n) (b +ℤ g) (pos (4096 * a)) in
    let t3 = mul-le-mul_left n k in
    let e4 = mul_assoc n 4096 (d + a) in
    let e5 = ap (λ (z : ℕ). n * z) (mul-add 4096 d a) ∙ mul-add n (4096 * d) (4096 * a) in
    omega (arith, linear)

pub tight_advance : (m : Model) (t : Start) (k : ℕ) (z : Shape) (s : List ℤ)
    → Tight m t k z s → Tight m t (suc k) (advanced m z) (spread_advanced (loop m) (advanced m z).axis s)
unfolding spread_advanced advanced
tight_advance m t k z s h l =
    let r = stepped (4096 ^ k) (exact m t k (through m l)) (bound (through m l) z) (gusts m l) (bound l (advanced m z))
    (spanned (through m l) (size s)) (spanned l spread) (2 * spanned l (new_axis m z))
    (h (through m l)).above (h (through m l)).below (lifted m z l)
    (omega (
      arith,
      through_spread m l (size s),
      spanned-mul l 4096 spread,
      spanned-le l (λ i. total 4 (λ j. unsigned_abs (loop m i j) * size s j)) (λ i. 4096 * spread i) (λ i q. omega arith),
    )) in
    record {
      above = rw (pow-suc 4096 k) r.0;
      below = rw (pow-suc 4096 k, spanned-listed l (λ i. spread i + 2 * size axis i) ∙ spanned-add l spread (λ i. 2 * size axis i) ∙ ap (λ (q : ℕ). spanned l spread + q) (spanned-mul l 2 (size axis) ∙ ap (λ (q : ℕ). 2 * q) (spanned-listed l (new_axis m z)))) r.1;
    }
  where
    axis : List ℤ
    axis = listed 4 (λ i. pos (new_axis m z i))

    spread : ℕ → ℕ
    spread i = (total 4 (λ j. unsigned_abs (loop m i j) * size s j) + 4095) / 4096

-- ---- a fold
reaches-removed : (l : ℕ → ℤ) (p : ℕ) (gs : List (List ℤ)) → reaches l gs ≡ unsigned_abs (dot l (part (slice_index_or gs p []))) + reaches l (remove gs p)
reaches-removed l zero [] = rw (dot-zero l) refl
reaches-removed l (suc p) [] = rw (dot-zero l) refl
reaches-removed l zero (g ∷ gs) = refl
reaches-removed l (suc p) (g ∷ gs) = let e = reaches-removed l p gs in omega arith

-- a sum of sizes against the size of the sum, where one part is spared
spare : (n p : ℕ) (t : ℕ → ℤ) → total n (λ i. unsigned_abs (t i)) ≤ unsigned_abs (sum n t) + total n (added p t)
unfolding sum total
spare zero p t = omega arith
spare (suc n) zero t =
    let s = sum-abs n (λ i. t (suc i)) in
    let e = total_ext n (λ i. added 0 t (suc i)) (λ i. 2 * unsigned_abs (t (suc i))) (λ i h. ap (λ (b : Bool). charged b (unsigned_abs (t (suc i)))) (eqb-suc-zero i))
    ∙ total-mul n 2 (λ i. unsigned_abs (t (suc i))) in
    omega (arith, triangle (t 0 +ℤ sum n (λ i. t (suc i))) (neg_ℤ (sum n (λ i. t (suc i)))), ints)
spare (suc n) (suc p) t =
    let h = spare n p (λ i. t (suc i)) in
    let e0 = ap (λ (b : Bool). charged b (unsigned_abs (t 0))) (eqb-zero-suc p) in
    let e = total_ext n (λ i. added (suc p) t (suc i)) (added p (λ i. t (suc i))) (λ i h. ap (λ (b : Bool). charged b (unsigned_abs (t (suc i)))) (eqb-suc-suc i p)) in
    omega (arith, ints)

-- what a fold of g adds in direction l
fold_spare : (l g : ℕ → ℤ) (p : ℕ) → spanned l (λ i. unsigned_abs (g i)) ≤ unsigned_abs (dot l g) + spanned l (added p g)
fold_spare l g p =
    let h = spare 4 p (λ i. l i *ℤ g i) in
    let e = total_ext 4 (λ i. unsigned_abs (l i *ℤ g i)) (λ i. unsigned_abs (l i) * unsigned_abs (g i)) (λ i h. abs-mul (l i) (g i)) in
    let e1 = total_ext 4 (added p (λ i. l i *ℤ g i)) (λ i. unsigned_abs (l i) * added p g i) (λ i h. shared (i == p) (l i) (g i)) in
    omega arith
  where
    shared : (b : Bool) (l g : ℤ) → charged b (unsigned_abs (l *ℤ g)) ≡ unsigned_abs l * charged b (unsigned_abs g)
    shared true l g = omega arith
    shared false l g = ap (λ (z : ℕ). 2 * z) (abs-mul l g) ∙ mul_left_comm 2 (unsigned_abs l) (unsigned_abs g)

lifted_fold : (n : ℕ) (t b h : ℤ) (e x : ℕ) → t ≤ℤ (pos n *ℤ b) → (pos n *ℤ b) ≤ℤ (t +ℤ pos (n * e)) → b ≤ℤ h → h ≤ℤ (b +ℤ pos x)
    → (t ≤ℤ (pos n *ℤ h)) × ((pos n *ℤ h) ≤ℤ (t +ℤ pos (n * (e + x))))
lifted_fold n t b h e x p q r s =
    omega (arith, linear, mul-le-pos n b h r, mul-le-pos n h (b +ℤ pos x) s, Ring.mul-add (pos n) b (pos x), mul-add n e x)

pub tight_fold : (m : Model) (t : Start) (k : ℕ) (z : Shape) (s : List ℤ) (place spared : ℕ)
    → Tight m t k z s → Tight m t k (folded place z) (spread_folded spared (slice_index_or z.generators place []) s)
unfolding folded spread_folded
tight_fold m t k z s place spared h l =
    let e = reaches-removed l place z.generators in
    let e1 = spanned-listed l (λ i. size z.axis i + unsigned_abs (g i)) ∙ spanned-add l (size z.axis) (λ i. unsigned_abs (g i)) in
    let e2 = spanned-listed l (λ i. size s i + added spared g i) ∙ spanned-add l (size s) (added spared g) in
    let t1 = dot-size l g (λ i. unsigned_abs (g i)) (λ i q. omega arith) in
    let t2 = fold_spare l g spared in
    let r = lifted_fold (4096 ^ k) (exact m t k l) (bound l z) (bound l (folded place z)) (spanned l (size s)) (spanned l (added spared g))
    (h l).above (h l).below (omega (arith, linear)) (omega (arith, linear)) in
    record { above = r.0; below = rw e2 r.1 }
  where
    g : ℕ → ℤ
    g = part (slice_index_or z.generators place [])
