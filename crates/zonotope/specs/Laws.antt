-- The zonotope is a lawful domain, and a tight one.
use Rattle.std.specs.Prelude.{◌≡◌, ℕ, zero, suc, ◌+◌, ◌-◌, ◌^◌, ◌<◌, ◌≤◌, Bool, true, false, List, [], length, ℤ, pos, ◌≤ℤ◌, Some, None, Option, nat_le, slice_index_or, unsigned_abs, refl}
use Rattle.std.proofs.Common.{le_trans, arith, leb-true}
use Rattle.std.proofs.lemmas.Int.{ints}
use Rattle.arith.specs.Sums.{listed, part}
use Rattle.arith.specs.Products.{dot, spanned}
use Rattle.arith.proofs.Ring.{linear}
use Rattle.arith.proofs.Sums.{listed_at, every_at}
use Rattle.arith.proofs.Dots.{dot-size}
use Rattle.arith.proofs.Bridge.{dot-listed}
use Rattle.dynamics.specs.declared.model.Model.{Model}
use Rattle.dynamics.specs.declared.start.Start.{Start}
use Rattle.dynamics.specs.declared.direction.Direction.{Direction}
use Rattle.dynamics.specs.Values.{State, loop, centre, width, along}
use Rattle.dynamics.specs.Runs.{Started, Permitted}
use Rattle.domains.specs.Meaning.{Lawful, Answer}
use Rattle.zonotope.specs.Shape.{Shape, size, within_none, Held, bound, sizes, extent}
use Rattle.zonotope.specs.Advance.{advanced}
use Rattle.zonotope.specs.Choice.{longest, lightest}
use Rattle.zonotope.specs.Fold.{folds}
use Rattle.zonotope.specs.Spread.{spread_advanced, spread_charged, spreads, moved_spread}
use Rattle.zonotope.specs.Domain.{Form, Fitting, Holds, begun, kept_if, bounds, narrow, moved_shape, spread_of, moved_form, bounded, zonotope}
use Rattle.zonotope.specs.Tight.{Tight, after, Present, SpreadPresent, Tightness}
use Rattle.zonotope.specs.Spans.{spanned-add, spanned-listed, spanned-size, size-listed}
use Rattle.zonotope.specs.Reaches.{reaches-size}
use Rattle.zonotope.specs.Absorb.{absorbing}
use Rattle.zonotope.specs.Folding.{foldings}
use Rattle.zonotope.specs.Bounding.{bounding}
use Rattle.zonotope.specs.Inclusion.{inclusion}
use Rattle.zonotope.specs.Tightness.{tight_advance, tight_fold}

-- ---- the limits
pub bounds_at : (z : Shape) → bounds z ≡ true → (i : ℕ) → i < 4 → extent z i ≤ 2 ^ 30
bounds_at z e i h = leb-true (extent z i) (2 ^ 30) (every_at 4 (λ i. nat_le (extent z i) (2 ^ 30)) e i h)

advance_fits : (m : Model) (f : Form) → Fitting (moved_form m f)
advance_fits m None = tt
advance_fits m (Some t) = go (bounds (moved_shape m t.shape)) refl
  where
    go : (b : Bool) → bounds (moved_shape m t.shape) ≡ b
        → Fitting (kept_if b (record { shape = moved_shape m t.shape; spread = spread_of m t.shape t.spread }))
    go true e = bounds_at (moved_shape m t.shape) e
    go false e = tt

bound-size : (l : ℕ → ℤ) (z : Shape) → unsigned_abs (bound l z) ≤ spanned l (extent z)
bound-size l z =
    let t1 = dot-size l (part z.centre) (size z.centre) (λ i h. omega arith) in
    let t2 = reaches-size l z.generators in
    let e1 = spanned-add l (size z.centre) (size z.axis) in
    let e2 = spanned-add l (λ i. size z.centre i + size z.axis i) (sizes z.generators) in
    omega (arith, linear)

bounds_fit : (l : Direction) (f : Form) → Fitting f → Answer (bounded l f) (λ b. unsigned_abs b ≤ 2 ^ 52)
bounds_fit l None h = tt
bounds_fit l (Some t) h = le_trans (bound-size (along l) t.shape) (spanned-size (along l) (extent t.shape) l.limited h)

fill_fits : (s : Start) (i : ℕ) → i < 4 → extent (begun s) i ≤ 2 ^ 30
fill_fits s i k = rw (listed_at 4 (centre s) (pos 0) i k, size-listed (width s) i k) (omega (arith, s.limited.1 i k))

-- ---- what is held
fill : (s : Start) (x : State) → Started s x → Held (begun s) x
fill s x h =
    absorbing (begun s) x 1 [] (omega arith) within_none
    (λ i k. rw (listed_at 4 (centre s) (pos 0) i k, size-listed (width s) i k) (omega (arith, ints, h i k)))

advance : (m : Model) (f : Form) (x y : State) → Holds f x → Permitted m x y → Holds (moved_form m f) y
unfolding moved_shape
advance m None x y h w = tt
advance m (Some t) x y h w = go (bounds (moved_shape m t.shape))
  where
    go : (b : Bool) → Holds (kept_if b (record { shape = moved_shape m t.shape; spread = spread_of m t.shape t.spread })) y
    go true = foldings (length (advanced m t.shape).generators - 16) (advanced m t.shape) y (inclusion m t.shape x y h w)
    go false = tt

bound_holds : (l : Direction) (f : Form) (x : State) → Holds f x → Answer (bounded l f) (λ b. dot (along l) x ≤ℤ b)
bound_holds l None x h = tt
bound_holds l (Some t) x h = bounding (along l) t.shape x h

pub zonotope_lawful : Lawful zonotope
zonotope_lawful = record {
  fill_fits = λ s f h. fill_fits s;
  advance_fits = λ m f h. advance_fits m f;
  cut_fits = λ a t f h. h;
  fill = λ s f x h b. fill s x b;
  advance = λ m f x y h b p. advance m f x y b p;
  bound_limit = bounds_fit;
  bound = λ l f x h b. bound_holds l f x b;
  cut_keeps = λ a t f x h b s. b;
  cut_adds_none = λ a t f x h b. b;
}

-- ---- tightness
tight_fill : (m : Model) (s : Start) → Tight m s 0 (begun s) (listed 4 (λ i. pos 0))
tight_fill m s l =
    let e = dot-listed l (centre s) in
    let e1 = spanned-listed l (width s) in
    record { above = omega (arith, ints); below = omega (arith, ints) }

tight_folds : (m : Model) (t : Start) (k n : ℕ) (z : Shape) (s : List ℤ) → Tight m t k z s → Tight m t k (folds n z) (spreads n z s)
unfolding folds spreads spread_charged
tight_folds m t k zero z s h = h
tight_folds m t k (suc n) z s h =
    tight_folds m t k n _ _ (tight_fold m t k z s (lightest z.generators) (longest (slice_index_or z.generators (lightest z.generators) [])) h)

tight_step : (m : Model) (s : Start) (k : ℕ) (f : Form) → Present f (Tight m s k) → Present (moved_form m f) (Tight m s (suc k))
unfolding moved_shape
tight_step m s k None h = tt
tight_step m s k (Some t) h = go (bounds (moved_shape m t.shape)) t.spread h
  where
    narrowed : (b : Bool) (w : List ℤ) → Tight m s k t.shape w → SpreadPresent (moved_shape m t.shape) (kept_if b (moved_spread m t.shape w)) (Tight m s (suc k))
    narrowed true w h = tight_folds m s (suc k) (length (advanced m t.shape).generators - 16) (advanced m t.shape) (spread_advanced (loop m) (advanced m t.shape).axis w) (tight_advance m s k t.shape w h)
    narrowed false w h = tt

    go : (b : Bool) (o : Option (List ℤ)) → SpreadPresent t.shape o (Tight m s k)
        → Present (kept_if b (record { shape = moved_shape m t.shape; spread = spread_of m t.shape o })) (Tight m s (suc k))
    go true None h = tt
    go true (Some w) h = narrowed (narrow (moved_spread m t.shape w)) w h
    go false o h = tt

pub tightness : Tightness
unfolding after
tightness m s zero = tight_fill m s
tightness m s (suc k) = tight_step m s k (after m s k) (tightness m s k)
