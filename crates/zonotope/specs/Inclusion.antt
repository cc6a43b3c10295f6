-- Every permitted successor of a held state is held after an advance.
use Rattle.std.specs.Prelude.{◌≡◌, ℕ, zero, suc, ◌+◌, ◌*◌, ◌<◌, ◌≤◌, List, [], ◌∷◌, ◌++◌, map, ℤ, pos, negsuc, ◌+ℤ◌, ◌-ℤ◌, ◌*ℤ◌, neg_ℤ, unsigned_abs, refl}
use Rattle.std.proofs.Common.{sym, ◌∙◌, mul-add, mul-le-mul_left, mul-pos, mul_left_comm, mul_comm, arith}
use Rattle.std.proofs.Math.Path.{ap, ap₂}
use Rattle.std.proofs.lemmas.Int.{ints}
use Rattle.arith.specs.Rounding.{nearest, residue}
use Rattle.arith.specs.Sums.{sum, listed, part}
use Rattle.arith.specs.Products.{dot}
use Rattle.arith.proofs.Ring.{linear}
use Rattle.arith.proofs.Order.{abs-mul-le}
use Rattle.arith.proofs.Solver.{var, lit, ◌:+◌, ◌:*◌, ◌:-◌, solve, solve_from}
use Rattle.dynamics.specs.declared.model.Model.{Model}
use Rattle.dynamics.specs.Values.{State, loop, push, middle, radius}
use Rattle.dynamics.specs.Runs.{Permitted, image}
use Rattle.dynamics.specs.Rows.{allowance}
use Rattle.dynamics.proofs.Whole.{rounding}
use Rattle.zonotope.specs.Shape.{Shape, size, Within, within_none, within_more, combined, Held}
use Rattle.zonotope.specs.Advance.{moved, images, rounded, residues, middle_image, new_axis, advanced}
use Rattle.arith.proofs.Sums.{listed_at, sum_ext, sum-add, sum-mul}
use Rattle.zonotope.specs.Absorb.{product, cofactor, product-pos, product_is, Share, share, combined_scaled, within_scaled, absorbing}
use Rattle.arith.proofs.Dots.{dot-add, dot-mul, dot-zero}
use Rattle.zonotope.specs.Spans.{size-listed}
use Rattle.zonotope.specs.Bounding.{held_dot}

-- ---- shares of joined, written and mapped lists
combined-append : (n : ℕ) {bs : List ℤ} {gs : List (List ℤ)} → Within n bs gs → (cs : List ℤ) (hs : List (List ℤ)) (i : ℕ)
    → combined (bs ++ cs) (gs ++ hs) i ≡ combined bs gs i +ℤ combined cs hs i
combined-append n within_none cs hs i = omega (arith, linear)
combined-append n (within_more h r) cs hs i = let e = combined-append n r cs hs i in omega (arith, linear)

within-append : (n : ℕ) {bs : List ℤ} {gs : List (List ℤ)} → Within n bs gs → {cs : List ℤ} {hs : List (List ℤ)} → Within n cs hs → Within n (bs ++ cs) (gs ++ hs)
within-append n within_none s = s
within-append n (within_more h r) s = within_more h (within-append n r s)

combined-listed : (n : ℕ) (b : ℕ → ℤ) (u : ℕ → List ℤ) (i : ℕ) → combined (listed n b) (listed n u) i ≡ sum n (λ j. b j *ℤ part (u j) i)
unfolding sum listed
combined-listed zero b u i = refl
combined-listed (suc n) b u i = ap (λ (z : ℤ). b 0 *ℤ part (u 0) i +ℤ z) (combined-listed n (λ j. b (suc j)) (λ j. u (suc j)) i)

within-listed : (k n : ℕ) (b : ℕ → ℤ) (u : ℕ → List ℤ) → ((j : ℕ) → j < n → unsigned_abs (b j) ≤ k) → Within k (listed n b) (listed n u)
unfolding listed
within-listed k zero b u h = within_none
within-listed k (suc n) b u h = within_more (h 0 (omega arith)) (within-listed k n (λ j. b (suc j)) (λ j. u (suc j)) (λ j t. h (suc j) (omega arith)))

within-map : (n : ℕ) (f : List ℤ → List ℤ) {bs : List ℤ} {gs : List (List ℤ)} → Within n bs gs → Within n bs (map f gs)
within-map n f within_none = within_none
within-map n f (within_more h r) = within_more h (within-map n f r)

combined-moved : (m : Model) (n : ℕ) {bs : List ℤ} {gs : List (List ℤ)} → Within n bs gs → (i : ℕ) → i < 4
    → combined bs (map (moved (loop m)) gs) i ≡ dot (loop m i) (combined bs gs)
combined-moved m n within_none i h = sym (dot-zero (loop m i))
combined-moved m n (within_more {b = b} {g = g} {bs = bs} {gs = gs} k r) i h =
    ap₂ (λ (s t : ℤ). b *ℤ s +ℤ t) (listed_at 4 (λ i. dot (loop m i) (part g)) (pos 0) i h) (combined-moved m n r i h)
    ∙ sym (dot-add (loop m i) (λ j. b *ℤ part g j) (combined bs gs) ∙ ap (λ (z : ℤ). z +ℤ dot (loop m i) (combined bs gs)) (dot-mul (loop m i) b (part g)))

-- what rounding moves
split_off : (b u v s t : ℤ) → b *ℤ u +ℤ s -ℤ pos 4096 *ℤ (b *ℤ v +ℤ t) ≡ b *ℤ (u -ℤ pos 4096 *ℤ v) +ℤ (s -ℤ pos 4096 *ℤ t)
split_off b u v s t =
    solve (b ∷ (u ∷ (v ∷ (s ∷ (t ∷ []))))) (var 0 :* var 1 :+ var 3 :- lit (pos 4096) :* (var 0 :* var 2 :+ var 4))
    (var 0 :* (var 1 :- lit (pos 4096) :* var 2) :+ (var 3 :- lit (pos 4096) :* var 4)) refl

combined-rounded : (n : ℕ) {bs : List ℤ} {us : List (List ℤ)} → Within n bs us → (i : ℕ) → i < 4
    → unsigned_abs (combined bs us i -ℤ pos 4096 *ℤ combined bs (map rounded us) i) ≤ n * residues us i
combined-rounded n within_none i h = omega arith
combined-rounded n (within_more {b = b} {g = u} {bs = bs} {gs = us} k r) i h =
    rw (listed_at 4 (λ i. nearest (part u i)) (pos 0) i h)
    (let e = split_off b (part u i) (nearest (part u i)) (combined bs us i) (combined bs (map rounded us) i) in
    let t = combined-rounded n r i h in
    let s = abs-mul-le b (part u i -ℤ pos 4096 *ℤ nearest (part u i)) n (residue (part u i)) k (omega arith) in
    rw e (omega (arith, linear, mul-add n (residue (part u i)) (residues us i))))

-- the numbers of one part
three : (w p q r : ℤ) (a b c d : ℕ) → pos 4096 *ℤ w ≡ p +ℤ q +ℤ r → unsigned_abs p ≤ a → unsigned_abs q ≤ b → unsigned_abs r ≤ c → b + c + a ≤ 4096 * d → unsigned_abs w ≤ d
three w p q r a b c d e hp hq hr h = omega (arith, ints)

parted : (n y v u c s t : ℤ) → s ≡ n *ℤ v -ℤ n *ℤ u
    → pos 4096 *ℤ (n *ℤ y -ℤ n *ℤ c -ℤ t) ≡ n *ℤ (pos 4096 *ℤ y -ℤ v) +ℤ n *ℤ (u -ℤ pos 4096 *ℤ c) +ℤ (s -ℤ pos 4096 *ℤ t)
parted n y v u c s t h =
    solve_from (n ∷ (y ∷ (v ∷ (u ∷ (c ∷ (s ∷ (t ∷ [])))))))
    (lit (pos 4096) :* (var 0 :* var 1 :- var 0 :* var 4 :- var 6))
    (var 0 :* (lit (pos 4096) :* var 1 :- var 2) :+ var 0 :* (var 3 :- lit (pos 4096) :* var 4) :+ (var 5 :- lit (pos 4096) :* var 6))
    (var 0 :* var 2 :- var 0 :* var 3) (var 5) (sym h) refl

closing : (n : ℕ) (y v u c s t : ℤ) (p q r a : ℕ) → s ≡ pos n *ℤ v -ℤ pos n *ℤ u → unsigned_abs (pos 4096 *ℤ y -ℤ v) ≤ p → unsigned_abs (u -ℤ pos 4096 *ℤ c) ≤ q
    → unsigned_abs (s -ℤ pos 4096 *ℤ t) ≤ n * r → q + r + p ≤ 4096 * a → unsigned_abs (pos n *ℤ y -ℤ pos n *ℤ c -ℤ t) ≤ n * a
closing n y v u c s t p q r a e hp hq hr ha =
    three (pos n *ℤ y -ℤ pos n *ℤ c -ℤ t) (pos n *ℤ (pos 4096 *ℤ y -ℤ v)) (pos n *ℤ (u -ℤ pos 4096 *ℤ c)) (s -ℤ pos 4096 *ℤ t) (n * p) (n * q) (n * r) (n * a) (parted (pos n) y v u c s t e)
    (abs-mul-le (pos n) (pos 4096 *ℤ y -ℤ v) n p (omega arith) hp) (abs-mul-le (pos n) (u -ℤ pos 4096 *ℤ c) n q (omega arith) hq) hr
    (omega (arith, mul-le-mul_left n ha, mul-add n (q + r) p, mul-add n q r, mul_left_comm n 4096 a))

-- the images, combined
joining : (n q x c f g d e : ℤ) → n *ℤ x ≡ n *ℤ c +ℤ f +ℤ g → q *ℤ g +ℤ (q *ℤ f +ℤ n *ℤ q *ℤ (d -ℤ e)) ≡ n *ℤ q *ℤ (x +ℤ d) -ℤ n *ℤ q *ℤ (c +ℤ e)
joining n q x c f g d e h =
    solve_from (n ∷ (q ∷ (x ∷ (c ∷ (f ∷ (g ∷ (d ∷ (e ∷ []))))))))
    (var 1 :* var 5 :+ (var 1 :* var 4 :+ var 0 :* var 1 :* (var 6 :- var 7)))
    (var 0 :* var 1 :* (var 2 :+ var 6) :- var 0 :* var 1 :* (var 3 :+ var 7))
    (var 1 :* (var 0 :* var 3 :+ var 4 :+ var 5)) (var 1 :* (var 0 :* var 2)) (ap (λ (z : ℤ). q *ℤ z) (sym h)) refl

minus_one : (z : ℤ) → negsuc 0 *ℤ z ≡ neg_ℤ z
minus_one z = omega (arith, ints)

module _ (m : Model) (z : Shape) (x y : State) (held : Held z x) (went : Permitted m x y) where
  abbrev n : ℕ
  n = held.scale

  -- the product of the radii, and of all but one
  abbrev q : ℕ
  q = product 2 (radius m)

  abbrev off : ℕ → ℤ
  off j = went.gust j -ℤ middle m j

  -- the share of channel j
  abbrev blown : ℕ → ℤ
  blown j = pos n *ℤ (off j *ℤ pos (cofactor 2 (radius m) j))

  blow : (j : ℕ) → j < 2 → Share 1 (radius m j) q (cofactor 2 (radius m) j) (off j)
  blow j h = share 1 (radius m j) q (cofactor 2 (radius m) j) (off j) (product_is 2 (radius m) j h) (omega (arith, went.calm j h))

  abbrev new_shares : List ℤ
  new_shares = map (λ (b : ℤ). pos q *ℤ b) held.shares ++ (listed 4 (λ j. pos q *ℤ held.axial j) ++ listed 2 blown)

  from_axis-within : Within (n * q) (listed 4 (λ j. pos q *ℤ held.axial j)) (listed 4 (λ j. listed 4 (λ i. pos (size z.axis j) *ℤ loop m i j)))
  from_axis-within =
      within-listed (n * q) 4 (λ j. pos q *ℤ held.axial j) (λ j. listed 4 (λ i. pos (size z.axis j) *ℤ loop m i j))
      (λ j h. rw (mul_comm n q) (abs-mul-le (pos q) (held.axial j) q n (omega arith) (held.axial_within j h)))

  new_within : Within (n * q) new_shares (images m z)
  unfolding images
  new_within =
      within-append (n * q) (within-map (n * q) (moved (loop m)) (within_scaled n q held.shares_within))
      (within-append (n * q)
      from_axis-within
      (within-listed (n * q) 2 blown (λ j. listed 4 (λ i. pos (radius m j) *ℤ push m i j))
      (λ j h. abs-mul-le (pos n) (off j *ℤ pos (cofactor 2 (radius m) j)) n q (omega arith) (omega (arith, (blow j h).small)))))

  -- the three kinds of images
  from_axis : (i : ℕ) → i < 4 → combined (listed 4 (λ j. pos q *ℤ held.axial j)) (listed 4 (λ j. listed 4 (λ i. pos (size z.axis j) *ℤ loop m i j))) i
      ≡ pos q *ℤ dot (loop m i) (λ j. held.axial j *ℤ pos (size z.axis j))
  from_axis i h =
      combined-listed 4 (λ j. pos q *ℤ held.axial j) (λ j. listed 4 (λ i. pos (size z.axis j) *ℤ loop m i j)) i
      ∙ sum_ext 4 (λ j. pos q *ℤ held.axial j *ℤ part (listed 4 (λ i. pos (size z.axis j) *ℤ loop m i j)) i)
      (λ j. pos q *ℤ (loop m i j *ℤ (held.axial j *ℤ pos (size z.axis j))))
      (λ j k. rw (listed_at 4 (λ i. pos (size z.axis j) *ℤ loop m i j) (pos 0) i h)
      (solve (pos q ∷ (held.axial j ∷ (pos (size z.axis j) ∷ (loop m i j ∷ [])))) (var 0 :* var 1 :* (var 2 :* var 3)) (var 0 :* (var 3 :* (var 1 :* var 2))) refl))
      ∙ sum-mul 4 (pos q) (λ j. loop m i j *ℤ (held.axial j *ℤ pos (size z.axis j)))

  from_gusts : (i : ℕ) → i < 4 → combined (listed 2 blown) (listed 2 (λ j. listed 4 (λ i. pos (radius m j) *ℤ push m i j))) i
      ≡ pos n *ℤ pos q *ℤ (sum 2 (λ j. push m i j *ℤ went.gust j) -ℤ sum 2 (λ j. push m i j *ℤ middle m j))
  from_gusts i h =
      combined-listed 2 blown (λ j. listed 4 (λ i. pos (radius m j) *ℤ push m i j)) i
      ∙ sum_ext 2 (λ j. blown j *ℤ part (listed 4 (λ i. pos (radius m j) *ℤ push m i j)) i)
      (λ j. pos n *ℤ pos q *ℤ (push m i j *ℤ went.gust j +ℤ negsuc 0 *ℤ (push m i j *ℤ middle m j)))
      (λ j k. rw (listed_at 4 (λ i. pos (radius m j) *ℤ push m i j) (pos 0) i h)
      (solve_from (pos n ∷ (pos q ∷ (went.gust j ∷ (middle m j ∷ (push m i j ∷ (pos (radius m j) ∷ (pos (cofactor 2 (radius m) j) ∷ [])))))))
      (var 0 :* ((var 2 :- var 3) :* var 6) :* (var 5 :* var 4)) (var 0 :* var 1 :* (var 4 :* var 2 :+ lit (negsuc 0) :* (var 4 :* var 3)))
      (var 0 :* var 4 :* ((var 2 :- var 3) :* var 6 :* var 5)) (var 0 :* var 4 :* (var 1 :* (var 2 :- var 3))) (ap (λ (z : ℤ). pos n *ℤ push m i j *ℤ z) (blow j k).is) refl))
      ∙ sum-mul 2 (pos n *ℤ pos q) (λ j. push m i j *ℤ went.gust j +ℤ negsuc 0 *ℤ (push m i j *ℤ middle m j))
      ∙ ap (λ (z : ℤ). pos n *ℤ pos q *ℤ z)
      (sum-add 2 (λ j. push m i j *ℤ went.gust j) (λ j. negsuc 0 *ℤ (push m i j *ℤ middle m j))
      ∙ ap (λ (z : ℤ). sum 2 (λ j. push m i j *ℤ went.gust j) +ℤ z) (sum-mul 2 (negsuc 0) (λ j. push m i j *ℤ middle m j) ∙ minus_one (sum 2 (λ j. push m i j *ℤ middle m j))))

  row_is : (i : ℕ) → pos n *ℤ dot (loop m i) x
      ≡ pos n *ℤ dot (loop m i) (part z.centre) +ℤ dot (loop m i) (λ j. held.axial j *ℤ pos (size z.axis j)) +ℤ dot (loop m i) (combined held.shares z.generators)
  row_is i = held_dot z x held (loop m i)

  image_is : (i : ℕ) → i < 4 → combined new_shares (images m z) i ≡ pos (n * q) *ℤ image m x went.gust i -ℤ pos (n * q) *ℤ middle_image m z i
  unfolding images
  image_is i h =
      combined-append (n * q) (within-map (n * q) (moved (loop m)) (within_scaled n q held.shares_within)) _ _ i
      ∙ ap₂ ◌+ℤ◌
      (combined_scaled (pos q) held.shares (map (moved (loop m)) z.generators) i ∙ ap (λ (z : ℤ). pos q *ℤ z) (combined-moved m n held.shares_within i h))
      (combined-append (n * q) from_axis-within _ _ i ∙ ap₂ ◌+ℤ◌ (from_axis i h) (from_gusts i h))
      ∙ joining (pos n) (pos q) (dot (loop m i) x) (dot (loop m i) (part z.centre)) (dot (loop m i) (λ j. held.axial j *ℤ pos (size z.axis j)))
      (dot (loop m i) (combined held.shares z.generators)) (sum 2 (λ j. push m i j *ℤ went.gust j)) (sum 2 (λ j. push m i j *ℤ middle m j)) (row_is i)

  pub inclusion : Held (advanced m z) y
  unfolding advanced
  inclusion =
      absorbing (advanced m z) y (n * q) new_shares (mul-pos held.some (product-pos 2 (radius m))) (within-map (n * q) rounded new_within)
      (λ i h. rw (listed_at 4 (λ i. nearest (middle_image m z i)) (pos 0) i h, size-listed (new_axis m z) i h)
      (closing (n * q) (y i) (image m x went.gust i) (middle_image m z i) (nearest (middle_image m z i))
      (combined new_shares (images m z) i) (combined new_shares (map rounded (images m z)) i)
      (allowance m i) (residue (middle_image m z i)) (residues (images m z) i) (new_axis m z i)
      (image_is i h) (rounding m x went.gust i (y i) (went.close i h)) (omega arith) (combined-rounded (n * q) new_within i h) (omega arith)))
