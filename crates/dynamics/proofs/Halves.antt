-- The halves of a start keep its limits, cover it and lie within it.
use Rattle.std.proofs.Common.{◌≡◌, ℕ, suc, ◌+◌, ◌-◌, ◌*◌, ◌/◌, ◌^◌, ◌<◌, ◌≤◌, Bool, true, false, cond, eqb, ltb, List, length, set, ℤ, pos, ◌+ℤ◌, ◌-ℤ◌, neg_ℤ, nat_abs, ◌≤ℤ◌, sym, refl, ap, ◌∙◌, subst, inl, inr, ⊎_elim, arith, w64, SFits, ltb-false, ltb-true, eq-eqb, ne_eqb, eqb-true}
use borrow.Author.Differences.{ints}
use Rattle.std.proofs.lemmas.Int.{by_lt_z}
use Rattle.std.proofs.lemmas.Bool.{cases_lt, cond-true, cond-false}
use Rattle.arith.specs.Sums.{part}
use Rattle.arith.proofs.Bits.{back}
use Rattle.arith.proofs.Sums.{listed_at, set-listed}
use Rattle.dynamics.specs.declared.start.Start.{Start}
use Rattle.dynamics.specs.Limits.{StartLimits}
use Rattle.dynamics.specs.Values.{State, centre, width}
use Rattle.dynamics.specs.Runs.{Started}
use Rattle.dynamics.proofs.Views.{width_is}
use Rattle.dynamics.specs.Halves.{wider, widest, FirstWidest, shift, half_radii, moved, lower_centres, upper_centres, Covering}

-- ---- the widest part
-- p is the first of the first n parts where w is greatest
record Best (w : ℕ → ℕ) (n p : ℕ) : Type 0 where
  inside : p < n
  greatest : (k : ℕ) → k < n → w k ≤ w p
  first : (k : ℕ) → k < p → w k < w p

step : (w : ℕ → ℕ) (n p : ℕ) → Best w n p → Best w (suc n) (wider w p n)
step w n p b = go (ltb (w p) (w n)) refl
  where
    last : (k : ℕ) → k < suc n → (k < n → w k ≤ w (wider w p n)) → w n ≤ w (wider w p n) → w k ≤ w (wider w p n)
    last k h f g = ⊎_elim f (λ e. let q : k ≡ n = omega arith in subst (λ (j : ℕ). w j ≤ w (wider w p n)) (sym q) g) (cases_lt k n)

    go : (c : Bool) → ltb (w p) (w n) ≡ c → Best w (suc n) (cond c n p)
    go true e =
        let t = ltb-true (w p) (w n) e in
        record {
          inside = omega arith;
          greatest = λ k h. ⊎_elim (λ (q : k < n). omega (arith, b.greatest k q)) (λ (q : n ≤ k). let r : k ≡ n = omega arith in rw r (omega arith)) (cases_lt k n);
          first = λ k h. omega (arith, b.greatest k h);
        }
    go false e =
        let t = ltb-false (w p) (w n) e in
        record {
          inside = omega (arith, b.inside);
          greatest = λ k h. ⊎_elim (λ (q : k < n). b.greatest k q) (λ (q : n ≤ k). let r : k ≡ n = omega arith in rw r t) (cases_lt k n);
          first = b.first;
        }

pub widest-first : (w : ℕ → ℕ) → FirstWidest w (widest w)
widest-first w =
    let b1 : Best w 1 0 = record { inside = omega arith; greatest = λ k h. let r : k ≡ 0 = omega arith in rw r (omega arith); first = λ k h. absurd (omega arith) } in
    let b4 = step w 3 (wider w (wider w 0 1) 2) (step w 2 (wider w 0 1) (step w 1 0 b1)) in
    record { inside = b4.inside; greatest = b4.greatest; first = b4.first }

-- ---- one part, which is cut where b is true: radius w, and a centre c that is moved by d, at most h
module _ (b : Bool) (c d : ℤ) (w h : ℕ) (k : b ≡ true → 2 * h ≤ w) (near : nat_abs d ≤ h) where
  part-size : (n : ℕ) → nat_abs c + w ≤ n → nat_abs (cond b (c +ℤ d) c) + cond b (w - h) w ≤ n
  part-size n l = go b k
    where
      go : (b : Bool) → (b ≡ true → 2 * h ≤ w) → nat_abs (cond b (c +ℤ d) c) + cond b (w - h) w ≤ n
      go true k = omega (arith, ints, k refl)
      go false k = l

  part_inside : (x : ℤ) → nat_abs (x -ℤ cond b (c +ℤ d) c) ≤ cond b (w - h) w → nat_abs (x -ℤ c) ≤ w
  part_inside x = go b k
    where
      go : (b : Bool) → (b ≡ true → 2 * h ≤ w) → nat_abs (x -ℤ cond b (c +ℤ d) c) ≤ cond b (w - h) w → nat_abs (x -ℤ c) ≤ w
      go true k l = omega (arith, ints, k refl)
      go false k l = l

-- a part of the whole lies in the half on its side of the centre
part_held : (b : Bool) (c d x : ℤ) (w h : ℕ) → nat_abs (x -ℤ c) ≤ w → (b ≡ true → nat_abs (x -ℤ (c +ℤ d)) ≤ w - h) → nat_abs (x -ℤ cond b (c +ℤ d) c) ≤ cond b (w - h) w
part_held true c d x w h l u = u refl
part_held false c d x w h l u = l

below : (x c : ℤ) (w h : ℕ) → 2 * h ≤ w → nat_abs (x -ℤ c) ≤ w → x ≤ℤ c → nat_abs (x -ℤ (c +ℤ neg_ℤ (pos h))) ≤ w - h
below x c w h k l u = omega (arith, ints)

above : (x c : ℤ) (w h : ℕ) → 2 * h ≤ w → nat_abs (x -ℤ c) ≤ w → c ≤ℤ x → nat_abs (x -ℤ (c +ℤ pos h)) ≤ w - h
above x c w h k l u = omega (arith, ints)

-- ---- all parts
module _ (s : Start) where
  cut_at : ℕ → Bool
  cut_at i = eqb i (widest (width s))

  -- twice the shift is at most the radius that is halved
  shift_small : (i : ℕ) → cut_at i ≡ true → 2 * shift s ≤ width s i
  unfolding cut_at
  shift_small i e = let q = eqb-true i (widest (width s)) e in rw q (omega arith)

  radii_at : (i : ℕ) → i < 4 → part (half_radii s) i ≡ pos (cond (cut_at i) (width s i - shift s) (width s i))
  unfolding cut_at
  radii_at i h = listed_at 4 (λ i. pos (cond (eqb i (widest (width s))) (width s i - shift s) (width s i))) (pos 0) i h

  centres_at : (d : ℤ) (i : ℕ) → i < 4 → part (moved d s) i ≡ cond (cut_at i) (centre s i +ℤ d) (centre s i)
  unfolding cut_at
  centres_at d i h = listed_at 4 (λ i. cond (eqb i (widest (width s))) (centre s i +ℤ d) (centre s i)) (pos 0) i h

  -- a half, moved by d, keeps the limits
  pub half_limits : (d : ℤ) → nat_abs d ≤ shift s → StartLimits (moved d s) (half_radii s)
  half_limits d n = (
    λ i h. rw (radii_at i h) (omega (arith, ints)),
    λ i h. rw (centres_at d i h, radii_at i h) (part-size (cut_at i) (centre s i) d (width s i) (shift s) (shift_small i) n (2 ^ 30) (s.limited.1 i h)),
  )

  pub lower_limits : StartLimits (lower_centres s) (half_radii s)
  lower_limits = half_limits (neg_ℤ (pos (shift s))) (omega (arith, ints))

  pub upper_limits : StartLimits (upper_centres s) (half_radii s)
  upper_limits = half_limits (pos (shift s)) (omega arith)

  module _ (a : Start) (d : ℤ) (p : a.centres ≡ moved d s) (q : a.radii ≡ half_radii s) where
    half_at : (x : State) (i : ℕ) → i < 4 → nat_abs (x i -ℤ centre a i) ≡ nat_abs (x i -ℤ cond (cut_at i) (centre s i +ℤ d) (centre s i))
    half_at x i h = ap (λ (z : ℤ). nat_abs (x i -ℤ z)) (ap (λ (xs : List ℤ). part xs i) p ∙ centres_at d i h)

    half_width : (i : ℕ) → i < 4 → width a i ≡ cond (cut_at i) (width s i - shift s) (width s i)
    half_width i h = ap nat_abs (ap (λ (xs : List ℤ). part xs i) q ∙ radii_at i h)

    pub half_within : nat_abs d ≤ shift s → (x : State) → Started a x → Started s x
    half_within n x t i h =
        part_inside (cut_at i) (centre s i) d (width s i) (shift s) (shift_small i) n (x i)
        (rw (← half_at x i h, ← half_width i h) (t i h))

    half_holds : (x : State) → Started s x → ((i : ℕ) → i < 4 → cut_at i ≡ true → nat_abs (x i -ℤ (centre s i +ℤ d)) ≤ width s i - shift s) → Started a x
    half_holds x t u i h = rw (half_at x i h, half_width i h) (part_held (cut_at i) (centre s i) d (x i) (width s i) (shift s) (t i h) (u i h))

  pub halves_cover : (a b : Start) → a.centres ≡ lower_centres s → a.radii ≡ half_radii s → b.centres ≡ upper_centres s → b.radii ≡ half_radii s → Covering s a b
  unfolding cut_at
  halves_cover a b p q u v =
      let m = widest (width s) in
      record {
        covers = λ x t. by_le (x m) (centre s m)
            (λ l. inl (half_holds a (neg_ℤ (pos (shift s))) p q x t (λ i h e. let r = eqb-true i m e in below (x i) (centre s i) (width s i) (shift s) (shift_small i e) (t i h) (rw r l))))
            (λ l. inr (half_holds b (pos (shift s)) u v x t (λ i h e. let r = eqb-true i m e in above (x i) (centre s i) (width s i) (shift s) (shift_small i e) (t i h) (rw r l))));
        lower_within = half_within a (neg_ℤ (pos (shift s))) p q (omega (arith, ints));
        upper_within = half_within b (pos (shift s)) u v (omega arith);
      }
    where
      by_le : {P : Type 0} (x y : ℤ) → (x ≤ℤ y → P) → (y ≤ℤ x → P) → P
      by_le x y f g = by_lt_z y x (λ l. g (omega (arith, ints))) f

-- ---- a half as the code makes it: one centre and one radius set
record Sums (c r d w : ℤ) (h : ℕ) : Type 0 where
  centre_fits : SFits w64 (back c +ℤ back d)
  centre_is : back (back c +ℤ back d) ≡ c +ℤ d
  radius_fits : SFits w64 (back r -ℤ back w)
  radius_is : back (back r -ℤ back w) ≡ pos (nat_abs r - h)

computed : (c r d w : ℤ) (h : ℕ) → nat_abs c ≤ 2 ^ 30 → pos 0 ≤ℤ r → nat_abs r ≤ 2 ^ 30 → h ≤ nat_abs r → nat_abs d ≤ h → w ≡ pos h → Sums c r d w h
computed c r d w h p q k l m e = record { centre_fits = omega (arith, ints); centre_is = omega (arith, ints); radius_fits = omega (arith, ints); radius_is = omega (arith, ints) }

module _ (s : Start) (p : ℕ) (d w : ℤ) (widest-is : p ≡ widest (width s)) (near : nat_abs d ≤ shift s) (half : w ≡ pos (width s p / 2)) where
  inside : p < 4
  inside = rw widest-is (widest-first (width s)).inside

  sums : Sums (centre s p) (part s.radii p) d w (shift s)
  sums =
      let e : shift s ≡ width s p / 2 = ap (λ (k : ℕ). width s k / 2) (sym widest-is) in
      let t = s.limited.1 p inside in
      computed (centre s p) (part s.radii p) d w (shift s) (omega arith) (s.limited.0 p inside) (omega arith) (omega arith) near (half ∙ ap pos (sym e))

  here : {A : Type 0} (x y : A) → cond (eqb p (widest (width s))) x y ≡ x
  here x y = cond-true (eqb p (widest (width s))) x y (eq-eqb p (widest (width s)) widest-is)

  elsewhere : {A : Type 0} (x y : A) (i : ℕ) → (i ≡ p → ⊥) → cond (eqb i (widest (width s))) x y ≡ y
  elsewhere x y i ne = cond-false (eqb i (widest (width s))) x y (ne_eqb i (widest (width s)) (λ e. ne (e ∙ sym widest-is)))

  pub centres_made : length s.centres ≡ 4 → set s.centres p (back (back (centre s p) +ℤ back d)) ≡ moved d s
  centres_made e =
      set-listed 4 s.centres p (λ i. cond (eqb i (widest (width s))) (centre s i +ℤ d) (centre s i)) e inside
      (sums.centre_is ∙ sym (here (centre s p +ℤ d) (centre s p)))
      (λ i k ne. sym (elsewhere (centre s i +ℤ d) (centre s i) i ne))

  pub radii_made : length s.radii ≡ 4 → set s.radii p (back (back (part s.radii p) -ℤ back w)) ≡ half_radii s
  radii_made e =
      set-listed 4 s.radii p (λ i. pos (cond (eqb i (widest (width s))) (width s i - shift s) (width s i))) e inside
      (sums.radius_is ∙ ap pos (sym (here (width s p - shift s) (width s p))))
      (λ i k ne. width_is s i k ∙ ap pos (sym (elsewhere (width s i - shift s) (width s i) i ne)))

  pub centre_adds : SFits w64 (back (centre s p) +ℤ back d)
  centre_adds = sums.centre_fits

  pub radius_subtracts : SFits w64 (back (part s.radii p) -ℤ back w)
  radius_subtracts = sums.radius_fits
