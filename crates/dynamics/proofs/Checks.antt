-- Numbers are accepted exactly within the limits.
use Rattle.std.proofs.Common.{◌≡◌, ℕ, zero, suc, ◌+◌, ◌*◌, ◌^◌, ◌<◌, ◌≤◌, Bool, true, false, cond, List, [], ◌∷◌, ◌++◌, get_or, ℤ, pos, nat_abs, ◌≤ℤ◌, Some, None, Option, sym, refl, ap, ◌∙◌, ap₂, ⊎_elim, eq-or-lt_of_le, arith, w64, SFits, ltb-false, le-ltb}
use Rattle.std.proofs.lemmas.Bool.{cond-false}
use Rattle.arith.specs.Sums.{part, entry}
use Rattle.arith.proofs.Bits.{back, back_is}
use Rattle.arith.proofs.Indices.{by2, by4, by8}
use Rattle.dynamics.specs.declared.channel.Channel.{Channel}
use Rattle.dynamics.specs.declared.ranges.Ranged.{Ranged}
use Rattle.dynamics.specs.Ranges.{within, up_to, outside, first_outside, too_large, row_numbers, matrix_rows, joined}
use Rattle.dynamics.specs.Refusals.{ranged, direction_refusal, keep_out_refusal, first_passing, start_numbers, wide_start, start_sums, start_refusal, channel_numbers, model_numbers, model_sums, model_refusal, by_parts}
use Rattle.dynamics.specs.Limits.{Exactly, DirectionLimits, MatrixLimits, StartLimits, ModelLimits}
use Rattle.dynamics.proofs.Places.{nothing}
use Rattle.dynamics.proofs.Inside.{within_inside, inside_within, up_to_least, up_to_most, inside_up_to, inside_at, none-outside, append_bad, append_good, append-none}

pub ranged-none : (o : Option ℕ) (s : Option (ℕ × ℕ)) → ranged o s ≡ None → (o ≡ None) × (s ≡ None)
ranged-none None s e = (refl, e)
ranged-none (Some p) s e = let z : ◌≡◌ {A = ℕ} 0 1 = cc in absurd (omega arith)

none-ranged : (o : Option ℕ) (s : Option (ℕ × ℕ)) → o ≡ None → s ≡ None → ranged o s ≡ None
none-ranged o s e f = ap (λ o. ranged o s) e ∙ f

-- ---- a row of four
row_at : (l : List ℤ) (i : ℕ) → i < 4 → get_or (row_numbers l) i nothing ≡ within (pos (2 ^ 20)) (part l i)
row_at l = by4 (λ i. get_or (row_numbers l) i nothing ≡ within (pos (2 ^ 20)) (part l i)) refl refl refl refl

pub row_exact : (l : List ℤ) (k : ℕ) → Exactly (first_outside k (row_numbers l) ≡ None) (DirectionLimits l)
row_exact l k = (
  λ e i h. within_inside (2 ^ 20) (part l i) (ap outside (sym (row_at l i h)) ∙ inside_at (row_numbers l) k e i h),
  λ h. none-outside (row_numbers l) k (λ j q. ap outside (row_at l j q) ∙ inside_within (2 ^ 20) (part l j) (h j q)),
)

pub direction_exact : (l : List ℤ) → Exactly (direction_refusal l ≡ None) (DirectionLimits l)
direction_exact l = (
  λ e. (row_exact l 0).0 (ranged-none (first_outside 0 (row_numbers l)) None e).0,
  λ h. none-ranged (first_outside 0 (row_numbers l)) None ((row_exact l 0).1 h) refl,
)

-- ---- a single number after others
pub one-exact : (n : ℕ) (z : ℤ) (k : ℕ) → Exactly (first_outside k (within (pos n) z ∷ []) ≡ None) (nat_abs z ≤ n)
one-exact n z k = (
  λ e. within_inside n z (inside_at (within (pos n) z ∷ []) k e 0 (omega arith)),
  λ h. none-outside (within (pos n) z ∷ []) k (elim [ zero ↦ λ q. inside_within n z h | suc j ↦ λ q. absurd (omega arith) ]),
)

pub keep_out_exact : (l : List ℤ) (t : ℤ) → Exactly (keep_out_refusal l t ≡ None) (DirectionLimits l × (nat_abs t ≤ 2 ^ 52))
keep_out_exact l t =
    let last = within (pos (2 ^ 52)) t ∷ [] in (
      λ e. let o = (ranged-none (first_outside 0 (row_numbers l ++ last)) None e).0 in
          let first = append-none (row_numbers l) last 0 o in
          ((row_exact l 0).0 first, (one-exact (2 ^ 52) t 4).0 (sym (append_good (row_numbers l) last 0 first) ∙ o)),
      λ h. none-ranged (first_outside 0 (row_numbers l ++ last)) None (append_good (row_numbers l) last 0 ((row_exact l 0).1 h.0) ∙ (one-exact (2 ^ 52) t 4).1 h.1) refl,
    )

-- the refusal of a keep-out, from that of its direction or from what was found of its threshold
pub keep_out_entries : (l : List ℤ) (t : ℤ) (q : ℕ × ℕ) → direction_refusal l ≡ Some q → keep_out_refusal l t ≡ Some q
keep_out_entries l t q e = go (first_outside 0 (row_numbers l)) refl e
  where
    go : (o : Option ℕ) → first_outside 0 (row_numbers l) ≡ o → ranged o None ≡ Some q → keep_out_refusal l t ≡ Some q
    go None f e = let z : ◌≡◌ {A = ℕ} 0 1 = cc in absurd (omega arith)
    go (Some p) f e = ap (λ o. ranged o None) (append_bad (row_numbers l) (within (pos (2 ^ 52)) t ∷ []) 0 p f) ∙ e

pub keep_out_threshold : (l : List ℤ) (t : ℤ) {n : Ranged} {o : Option ℕ} → direction_refusal l ≡ None → n ≡ within (pos (2 ^ 52)) t → o ≡ first_outside 4 (n ∷ [])
    → keep_out_refusal l t ≡ ranged o None
keep_out_threshold l t e f g =
    ap (λ o. ranged o None) (append_good (row_numbers l) (within (pos (2 ^ 52)) t ∷ []) 0 (ranged-none (first_outside 0 (row_numbers l)) None e).0
    ∙ ap (λ n. first_outside 4 (n ∷ [])) (sym f) ∙ sym g)

-- what is refused by a range is refused, whatever the sums give
pub at_once : (o : Option ℕ) (s : Option (ℕ × ℕ)) (q : ℕ × ℕ) → ranged o None ≡ Some q → ranged o s ≡ Some q
at_once None s q e = let z : ◌≡◌ {A = ℕ} 0 1 = cc in absurd (omega arith)
at_once (Some p) s q e = e

-- ---- a start
pub passing_at : (n : ℕ) (k : ℕ) (t : ℕ → Bool) → first_passing k n t ≡ None → (i : ℕ) → k ≤ i → i < k + n → t i ≡ false
unfolding first_passing
passing_at zero k t e i h j = absurd (omega arith)
passing_at (suc n) k t e i h j = go (t k) refl e (λ f l. passing_at n (k + 1) t f i l (omega arith))
  where
    go : (b : Bool) → t k ≡ b → cond b (Some k) (first_passing (k + 1) n t) ≡ None → (first_passing (k + 1) n t ≡ None → k + 1 ≤ i → t i ≡ false) → t i ≡ false
    go true q e more = let z : ◌≡◌ {A = ℕ} 0 1 = cc in absurd (omega arith)
    go false q e more = ⊎_elim (λ p. ap t (sym p) ∙ q) (λ p. more e (omega arith)) (eq-or-lt_of_le h)

pub none_passing : (n : ℕ) (k : ℕ) (t : ℕ → Bool) → ((i : ℕ) → k ≤ i → i < k + n → t i ≡ false) → first_passing k n t ≡ None
unfolding first_passing
none_passing zero k t h = refl
none_passing (suc n) k t h = cond-false _ _ _ (h k (omega arith) (omega arith)) ∙ none_passing n (k + 1) t (λ i l m. h i (omega arith) (omega arith))

large_exact : (limit : ℕ) (c r : ℤ) → Exactly (too_large limit c r ≡ false) (nat_abs c + nat_abs r ≤ limit)
large_exact limit c r = (λ e. omega (arith, ltb-false limit (nat_abs c + nat_abs r) e), λ h. le-ltb limit (nat_abs c + nat_abs r) h)

-- the test of a centre and a radius that were passed
pub large_passed : (limit : ℕ) (c r : ℤ) {b : Bool} → SFits w64 c → SFits w64 r → b ≡ too_large limit (back c) (back r) → too_large limit c r ≡ b
large_passed limit c r f g e = ap₂ (too_large limit) (sym (back_is c f)) (sym (back_is r g)) ∙ sym e

centre_at : (p w : List ℤ) (i : ℕ) → i < 4 → get_or (start_numbers p w) (2 * i) nothing ≡ within (pos (2 ^ 30)) (part p i)
centre_at p w = by4 (λ i. get_or (start_numbers p w) (2 * i) nothing ≡ within (pos (2 ^ 30)) (part p i)) refl refl refl refl

radius_at : (p w : List ℤ) (i : ℕ) → i < 4 → get_or (start_numbers p w) (2 * i + 1) nothing ≡ up_to (pos (2 ^ 30)) (part w i)
radius_at p w = by4 (λ i. get_or (start_numbers p w) (2 * i + 1) nothing ≡ up_to (pos (2 ^ 30)) (part w i)) refl refl refl refl

sums_none : (o : Option ℕ) → start_sums o ≡ None → o ≡ None
sums_none None e = refl
sums_none (Some i) e = let z : ◌≡◌ {A = ℕ} 0 1 = cc in absurd (omega arith)

start_inside : (p w : List ℤ) → StartLimits p w → (j : ℕ) → j < 8 → outside (get_or (start_numbers p w) j nothing) ≡ false
start_inside p w h =
    let centre : (i : ℕ) → i < 4 → outside (within (pos (2 ^ 30)) (part p i)) ≡ false = λ i k. inside_within (2 ^ 30) (part p i) (omega (arith, h.1 i k)) in
    let radius : (i : ℕ) → i < 4 → outside (up_to (pos (2 ^ 30)) (part w i)) ≡ false = λ i k. inside_up_to (2 ^ 30) (part w i) (h.0 i k) (omega (arith, h.1 i k)) in
    by8 (λ j. outside (get_or (start_numbers p w) j nothing) ≡ false)
    (centre 0 (omega arith)) (radius 0 (omega arith)) (centre 1 (omega arith)) (radius 1 (omega arith))
    (centre 2 (omega arith)) (radius 2 (omega arith)) (centre 3 (omega arith)) (radius 3 (omega arith))

pub start_exact : (p w : List ℤ) → Exactly (start_refusal p w ≡ None) (StartLimits p w)
start_exact p w = (
  λ e. let t = ranged-none (first_outside 0 (start_numbers p w)) (start_sums (wide_start p w)) e in (
    λ i k. up_to_least (2 ^ 30) (part w i) (ap outside (sym (radius_at p w i k)) ∙ inside_at (start_numbers p w) 0 t.0 (2 * i + 1) (omega arith)),
    λ i k. (large_exact (2 ^ 30) (part p i) (part w i)).0 (passing_at 4 0 (λ i. too_large (2 ^ 30) (part p i) (part w i)) (sums_none (wide_start p w) t.1) i (omega arith) (omega arith)),
  ),
  λ h. none-ranged (first_outside 0 (start_numbers p w)) (start_sums (wide_start p w)) (none-outside (start_numbers p w) 0 (start_inside p w h))
      (ap start_sums (none_passing 4 0 (λ i. too_large (2 ^ 30) (part p i) (part w i)) (λ i l k. (large_exact (2 ^ 30) (part p i) (part w i)).1 (h.1 i k)))),
)

-- ---- a model
-- a row, and what follows it
row_then : (r : List ℤ) (rest : List Ranged) (k : ℕ) → Exactly (first_outside k (row_numbers r ++ rest) ≡ None) (DirectionLimits r × (first_outside (k + 4) rest ≡ None))
row_then r rest k = (
  λ e. let first = append-none (row_numbers r) rest k e in ((row_exact r k).0 first, sym (append_good (row_numbers r) rest k first) ∙ e),
  λ h. append_good (row_numbers r) rest k ((row_exact r k).1 h.0) ∙ h.1,
)

pub matrix_exact : (a : List (List ℤ)) → Exactly (first_outside 0 (joined (matrix_rows a)) ≡ None) (MatrixLimits 4 a)
unfolding joined first_outside
matrix_exact a =
    let row = λ (i : ℕ). get_or a i [] in
    let r3 = row_then (row 3) [] 12 in
    let r2 = row_then (row 2) (row_numbers (row 3) ++ []) 8 in
    let r1 = row_then (row 1) (row_numbers (row 2) ++ (row_numbers (row 3) ++ [])) 4 in
    let r0 = row_then (row 0) (row_numbers (row 1) ++ (row_numbers (row 2) ++ (row_numbers (row 3) ++ []))) 0 in (
      λ e. let t0 = r0.0 e in
          let t1 = r1.0 t0.1 in
          let t2 = r2.0 t1.1 in
          let t3 = r3.0 t2.1 in
          λ i j h k. by4 (λ i. DirectionLimits (row i)) t0.0 t1.0 t2.0 t3.0 i h j k,
      λ h. r0.1 (λ j. h 0 j (omega arith), r1.1 (λ j. h 1 j (omega arith), r2.1 (λ j. h 2 j (omega arith), r3.1 (λ j. h 3 j (omega arith), refl)))),
    )

-- what a channel's numbers keep
abbrev ChannelLimits : Channel → Type 0
ChannelLimits c = DirectionLimits c.gains × (nat_abs c.centre ≤ 2 ^ 24) × (pos 0 ≤ℤ c.radius) × (nat_abs c.radius ≤ 2 ^ 24)

gust_exact : (m r : ℤ) (k : ℕ) → Exactly (first_outside k (within (pos (2 ^ 24)) m ∷ (up_to (pos (2 ^ 24)) r ∷ [])) ≡ None) ((nat_abs m ≤ 2 ^ 24) × (pos 0 ≤ℤ r) × (nat_abs r ≤ 2 ^ 24))
gust_exact m r k =
    let ns = within (pos (2 ^ 24)) m ∷ (up_to (pos (2 ^ 24)) r ∷ []) in (
      λ e. (within_inside (2 ^ 24) m (inside_at ns k e 0 (omega arith)), up_to_least (2 ^ 24) r (inside_at ns k e 1 (omega arith)), up_to_most (2 ^ 24) r (inside_at ns k e 1 (omega arith))),
      λ h. none-outside ns k (by2 (λ j. outside (get_or ns j nothing) ≡ false) (inside_within (2 ^ 24) m h.0) (inside_up_to (2 ^ 24) r h.1 h.2)),
    )

channel_exact : (c : Channel) (k : ℕ) → Exactly (first_outside k (channel_numbers c) ≡ None) (ChannelLimits c)
channel_exact c k =
    let t = row_then c.gains (within (pos (2 ^ 24)) c.centre ∷ (up_to (pos (2 ^ 24)) c.radius ∷ [])) k in
    let g = gust_exact c.centre c.radius (k + 4) in (
      λ e. let u = g.0 (t.0 e).1 in ((t.0 e).0, u.0, u.1, u.2),
      λ h. t.1 (h.0, g.1 (h.1, h.2, h.3)),
    )

-- the numbers of a model, piece by piece
module _ (a : List (List ℤ)) (c d : Channel) where
  refused_first : (ns ms : List Ranged) (k : ℕ) (q : ℕ × ℕ) → ranged (first_outside k ns) None ≡ Some q → ranged (first_outside k (ns ++ ms)) (model_sums c d) ≡ Some q
  refused_first ns ms k q e = go (first_outside k ns) refl e
    where
      go : (o : Option ℕ) → first_outside k ns ≡ o → ranged o None ≡ Some q → ranged (first_outside k (ns ++ ms)) (model_sums c d) ≡ Some q
      go None f e = let z : ◌≡◌ {A = ℕ} 0 1 = cc in absurd (omega arith)
      go (Some p) f e = ap (λ o. ranged o (model_sums c d)) (append_bad ns ms k p f) ∙ e

  pub model_in_matrix : (q : ℕ × ℕ) → ranged (first_outside 0 (joined (matrix_rows a))) None ≡ Some q → model_refusal a c d ≡ Some q
  model_in_matrix q e = refused_first (joined (matrix_rows a)) (channel_numbers c ++ channel_numbers d) 0 q e

  after_matrix : first_outside 0 (joined (matrix_rows a)) ≡ None → first_outside 0 (model_numbers a c d) ≡ first_outside 16 (channel_numbers c ++ channel_numbers d)
  unfolding joined
  after_matrix e = append_good (joined (matrix_rows a)) (channel_numbers c ++ channel_numbers d) 0 e

  pub model_in_first : (q : ℕ × ℕ) → first_outside 0 (joined (matrix_rows a)) ≡ None → ranged (first_outside 16 (channel_numbers c)) None ≡ Some q → model_refusal a c d ≡ Some q
  model_in_first q e f = ap (λ o. ranged o (model_sums c d)) (after_matrix e) ∙ refused_first (channel_numbers c) (channel_numbers d) 16 q f

  after_first : first_outside 0 (joined (matrix_rows a)) ≡ None → first_outside 16 (channel_numbers c) ≡ None → first_outside 0 (model_numbers a c d) ≡ first_outside 22 (channel_numbers d)
  after_first e f = after_matrix e ∙ append_good (channel_numbers c) (channel_numbers d) 16 f

  pub model_in_second : (o : Option ℕ) → first_outside 0 (joined (matrix_rows a)) ≡ None → first_outside 16 (channel_numbers c) ≡ None → first_outside 22 (channel_numbers d) ≡ o
      → model_refusal a c d ≡ ranged o (model_sums c d)
  model_in_second o e f g = ap (λ o. ranged o (model_sums c d)) (after_first e f ∙ g)

  sums_small : model_sums c d ≡ None → (too_large (2 ^ 24) c.centre c.radius ≡ false) × (too_large (2 ^ 24) d.centre d.radius ≡ false)
  sums_small e = go (too_large (2 ^ 24) c.centre c.radius) (too_large (2 ^ 24) d.centre d.radius) e
    where
      go : (x y : Bool) → cond {A = Option (ℕ × ℕ)} x (Some (7, 22)) (cond y (Some (7, 28)) None) ≡ None → (x ≡ false) × (y ≡ false)
      go true y e = let z : ◌≡◌ {A = ℕ} 0 1 = cc in absurd (omega arith)
      go false true e = let z : ◌≡◌ {A = ℕ} 0 1 = cc in absurd (omega arith)
      go false false e = (refl, refl)

  pub model_limits : first_outside 0 (joined (matrix_rows a)) ≡ None → first_outside 16 (channel_numbers c) ≡ None → first_outside 22 (channel_numbers d) ≡ None
      → too_large (2 ^ 24) c.centre c.radius ≡ false → too_large (2 ^ 24) d.centre d.radius ≡ false
      → ModelLimits a (by_parts c.gains d.gains) (c.centre ∷ (d.centre ∷ [])) (c.radius ∷ (d.radius ∷ []))
  model_limits e f g s t =
      let x = (channel_exact c 16).0 f in
      let y = (channel_exact d 22).0 g in (
        (matrix_exact a).0 e,
        λ i j h k. by2 (λ j. nat_abs (entry (by_parts c.gains d.gains) i j) ≤ 2 ^ 20)
            (by4 (λ i. nat_abs (entry (by_parts c.gains d.gains) i 0) ≤ 2 ^ 20) (x.0 0 (omega arith)) (x.0 1 (omega arith)) (x.0 2 (omega arith)) (x.0 3 (omega arith)) i h)
            (by4 (λ i. nat_abs (entry (by_parts c.gains d.gains) i 1) ≤ 2 ^ 20) (y.0 0 (omega arith)) (y.0 1 (omega arith)) (y.0 2 (omega arith)) (y.0 3 (omega arith)) i h)
            j k,
        (
          by2 (λ j. pos 0 ≤ℤ part (c.radius ∷ (d.radius ∷ [])) j) x.2 y.2,
          by2 (λ j. nat_abs (part (c.centre ∷ (d.centre ∷ [])) j) + nat_abs (part (c.radius ∷ (d.radius ∷ [])) j) ≤ 2 ^ 24)
              ((large_exact (2 ^ 24) c.centre c.radius).0 s) ((large_exact (2 ^ 24) d.centre d.radius).0 t),
        ),
      )

  pub model_exact : Exactly (model_refusal a c d ≡ None) (ModelLimits a (by_parts c.gains d.gains) (c.centre ∷ (d.centre ∷ [])) (c.radius ∷ (d.radius ∷ [])))
  model_exact = (
    λ e. let t = ranged-none (first_outside 0 (model_numbers a c d)) (model_sums c d) e in
        let m = append-none (joined (matrix_rows a)) (channel_numbers c ++ channel_numbers d) 0 t.0 in
        let f = append-none (channel_numbers c) (channel_numbers d) 16 (sym (after_matrix m) ∙ t.0) in
        let g = sym (after_first m f) ∙ t.0 in
        let s = sums_small t.1 in
        model_limits m f g s.0 s.1,
    λ h. let b = h.1 in
        let m = (matrix_exact a).1 h.0 in
        let s = h.2.1 0 (omega arith) in
        let u = h.2.1 1 (omega arith) in
        let f = (channel_exact c 16).1 (by4 (λ i. nat_abs (part c.gains i) ≤ 2 ^ 20) (b 0 0 (omega arith) (omega arith)) (b 1 0 (omega arith) (omega arith)) (b 2 0 (omega arith) (omega arith)) (b 3 0 (omega arith) (omega arith)), omega arith, h.2.0 0 (omega arith), omega arith) in
        let g = (channel_exact d 22).1 (by4 (λ i. nat_abs (part d.gains i) ≤ 2 ^ 20) (b 0 1 (omega arith) (omega arith)) (b 1 1 (omega arith) (omega arith)) (b 2 1 (omega arith) (omega arith)) (b 3 1 (omega arith) (omega arith)), omega arith, h.2.0 1 (omega arith), omega arith) in
        none-ranged (first_outside 0 (model_numbers a c d)) (model_sums c d) (after_first m f ∙ g)
        (cond-false _ _ _ ((large_exact (2 ^ 24) c.centre c.radius).1 s) ∙ cond-false _ _ _ ((large_exact (2 ^ 24) d.centre d.radius).1 u)),
  )
