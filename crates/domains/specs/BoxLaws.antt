-- The interval box is a lawful domain.
use Rattle.std.specs.Prelude.{◌≡◌, ℕ, suc, ◌+◌, ◌*◌, ◌/◌, ◌%◌, ◌^◌, ◌<◌, ◌≤◌, Bool, true, false, cond, List, length, ℤ, pos, negsuc, ◌+ℤ◌, ◌-ℤ◌, ◌*ℤ◌, neg_ℤ, ◌≤ℤ◌, Some, None, ◌==◌, int_lt, nat_le, slice_set, unsigned_abs, refl}
use Rattle.std.specs.Bool.{then_some}
use Rattle.std.proofs.Common.{sym, subst, ◌∙◌, arith, leb-true, length-set}
use Rattle.std.proofs.lemmas.Int.{ints}
use Rattle.arith.specs.Sums.{listed, part}
use Rattle.arith.specs.Products.{dot, spanned}
use Rattle.arith.proofs.Ring.{neg-mul, mul-neg, linear}
use Rattle.arith.proofs.Order.{mul-le-pos}
use Rattle.arith.proofs.Floor.{floored-greatest}
use Rattle.arith.proofs.Sums.{listed_at, length-listed, every_at, sum-le, set_at}
use Rattle.arith.proofs.Dots.{sum-size}
use Rattle.arith.proofs.Indices.{by4}
use Rattle.dynamics.specs.declared.model.Model.{Model}
use Rattle.dynamics.specs.declared.start.Start.{Start}
use Rattle.dynamics.specs.declared.direction.Direction.{Direction}
use Rattle.dynamics.specs.Values.{State, centre, width, along}
use Rattle.dynamics.specs.Runs.{Permitted}
use Rattle.dynamics.specs.Rows.{allowance}
use Rattle.dynamics.specs.Support.{through, gusts}
use Rattle.dynamics.proofs.Step.{step_reach}
use Rattle.domains.specs.declared.axis.SignedAxis.{SignedAxis}
use Rattle.domains.specs.Axes.{signed, unit}
use Rattle.domains.specs.Meaning.{Lawful, Answer}
use Rattle.domains.specs.Box.{Form, Fitting, Holds, start_limit, side, support, bounded, carried, within, advanced, lowered, trimmed, box}
use Rattle.domains.specs.AxesLemmas.{unit-dot}

-- ---- the support of a box
side-bound : (l x u v : ℤ) → x ≤ℤ u → neg_ℤ x ≤ℤ v → (l *ℤ x) ≤ℤ (pos (unsigned_abs l) *ℤ side l u v)
side-bound (pos n) x u v h k = mul-le-pos n x u h
side-bound (negsuc n) x u v h k = rw (neg-mul (pos (suc n)) x ∙ sym (mul-neg (pos (suc n)) x)) (mul-le-pos (suc n) (neg_ℤ x) v k)

-- the two sides of part i
upper : (u : List ℤ) (x : State) → Holds (Some u) x → (i : ℕ) → i < 4 → x i ≤ℤ part u (2 * i)
upper u x h = by4 (λ i. x i ≤ℤ part u (2 * i)) (h 0 (omega arith)) (h 2 (omega arith)) (h 4 (omega arith)) (h 6 (omega arith))

lower : (u : List ℤ) (x : State) → Holds (Some u) x → (i : ℕ) → i < 4 → neg_ℤ (x i) ≤ℤ part u (2 * i + 1)
lower u x h = by4 (λ i. neg_ℤ (x i) ≤ℤ part u (2 * i + 1)) (h 1 (omega arith)) (h 3 (omega arith)) (h 5 (omega arith)) (h 7 (omega arith))

pub support-bound : (l : ℕ → ℤ) (u : List ℤ) (x : State) → Holds (Some u) x → dot l x ≤ℤ support l u
support-bound l u x h =
    sum-le 4 (λ i. l i *ℤ x i) (λ i. pos (unsigned_abs (l i)) *ℤ side (l i) (part u (2 * i)) (part u (2 * i + 1)))
    (λ i k. side-bound (l i) (x i) (part u (2 * i)) (part u (2 * i + 1)) (upper u x h i k) (lower u x h i k))

pub side-size : (l u v : ℤ) (n : ℕ) → unsigned_abs u ≤ n → unsigned_abs v ≤ n → unsigned_abs (side l u v) ≤ n
side-size (pos m) u v n p q = p
side-size (negsuc m) u v n p q = q

pub support-size : (l : ℕ → ℤ) (u : List ℤ) (n : ℕ) → ((i : ℕ) → i < 4 → unsigned_abs (l i) ≤ n) → ((a : ℕ) → a < 8 → unsigned_abs (part u a) ≤ 2 ^ 30) → unsigned_abs (support l u) ≤ 4 * (n * 2 ^ 30)
support-size l u n p q =
    sum-size 4 (λ i. pos (unsigned_abs (l i))) (λ i. side (l i) (part u (2 * i)) (part u (2 * i + 1))) n (2 ^ 30) p
    (λ i k. side-size (l i) (part u (2 * i)) (part u (2 * i + 1)) (2 ^ 30) (q (2 * i) (omega arith)) (q (2 * i + 1) (omega arith)))

-- ---- fill
signed-near : (b : Bool) (x p : ℤ) (w : ℕ) → unsigned_abs (x -ℤ p) ≤ w → cond b x (neg_ℤ x) ≤ℤ (cond b p (neg_ℤ p) +ℤ pos w)
signed-near true x p w h = omega (arith, ints)
signed-near false x p w h = omega (arith, ints)

signed-size : (b : Bool) (p : ℤ) (w n : ℕ) → unsigned_abs p + w ≤ n → unsigned_abs (cond b p (neg_ℤ p) +ℤ pos w) ≤ n
signed-size true p w n h = omega (arith, ints)
signed-size false p w n h = omega (arith, ints)

pub start_limit_size : (s : Start) (a : ℕ) → a < 8 → unsigned_abs (start_limit s a) ≤ 2 ^ 30
start_limit_size s a h = signed-size (a % 2 == 0) (centre s (a / 2)) (width s (a / 2)) (2 ^ 30) (s.limited.1 (a / 2) (omega arith))

-- ---- eight limits written from the axis
pub listed_limits : (f : ℕ → ℤ) → ((a : ℕ) → a < 8 → unsigned_abs (f a) ≤ 2 ^ 30) → Fitting (Some (listed 8 f))
listed_limits f h = (length-listed 8 f, λ a k. rw (listed_at 8 f (pos 0) a k) (h a k))

listed_holds : (f : ℕ → ℤ) (x : State) → ((a : ℕ) → a < 8 → signed a x ≤ℤ f a) → Holds (Some (listed 8 f)) x
listed_holds f x h a k = rw (listed_at 8 f (pos 0) a k) (h a k)

-- ---- advance
pub carried-bound : (m : Model) (u : List ℤ) (x y : State) → Holds (Some u) x → Permitted m x y → (l : ℕ → ℤ) → dot l y ≤ℤ carried m u l
carried-bound m u x y h p l =
    floored-greatest (support (through m l) u +ℤ gusts m l +ℤ pos (spanned l (allowance m))) (dot l y)
    (grown (pos 4096 *ℤ dot l y) (dot (through m l) x) (support (through m l) u) (gusts m l) (pos (spanned l (allowance m))) (support-bound (through m l) u x h) (step_reach m x y p l))
  where
    grown : (y a b c d : ℤ) → a ≤ℤ b → y ≤ℤ (a +ℤ c +ℤ d) → y ≤ℤ (b +ℤ c +ℤ d)
    grown y a b c d h k = omega (arith, linear)

-- of limits that are kept only within ±2^30
kept_fits : (b : Bool) (v : List ℤ) → length v ≡ 8 → within v ≡ b → Fitting (then_some b v)
kept_fits false v e h = tt
kept_fits true v e h = (e, λ a k. leb-true (unsigned_abs (part v a)) (2 ^ 30) (every_at 8 (λ a. nat_le (unsigned_abs (part v a)) (2 ^ 30)) h a k))

kept_holds : (b : Bool) (v : List ℤ) (x : State) → Holds (Some v) x → Holds (then_some b v) x
kept_holds false v x h = tt
kept_holds true v x h = h

next : Model → List ℤ → List ℤ
next m u = listed 8 (λ a. carried m u (unit a))

advance_fits : (m : Model) (f : Form) → Fitting f → Fitting (advanced m f)
unfolding next
advance_fits m None h = tt
advance_fits m (Some u) h = kept_fits (within (next m u)) (next m u) (length-listed 8 (λ a. carried m u (unit a))) refl

advance_holds : (m : Model) (f : Form) (x y : State) → Holds f x → Permitted m x y → Holds (advanced m f) y
unfolding next
advance_holds m None x y h p = tt
advance_holds m (Some u) x y h p =
    kept_holds (within (next m u)) (next m u) y
    (listed_holds (λ a. carried m u (unit a)) y (λ a k. rw (← unit-dot y a k) (carried-bound m u x y h p (unit a))))

-- ---- bound
bound_limit : (l : Direction) (f : Form) → Fitting f → Answer (bounded l f) (λ b. unsigned_abs b ≤ 2 ^ 52)
bound_limit l None h = tt
bound_limit l (Some u) h = support-size (along l) u (2 ^ 20) l.limited h.1

bound_holds : (l : Direction) (f : Form) (x : State) → Holds f x → Answer (bounded l f) (λ b. dot (along l) x ≤ℤ b)
bound_holds l None x h = tt
bound_holds l (Some u) x h = support-bound (along l) u x h

-- ---- cut
lowered_fits : (u : List ℤ) (a : ℕ) (t : ℤ) → a < 8 → unsigned_abs t ≤ 2 ^ 30 → Fitting (Some u) → Fitting (Some (lowered a t u))
lowered_fits u a t h k f = go (int_lt t (part u a))
  where
    go : (b : Bool) → Fitting (Some (cond b (slice_set u a t) u))
    go false = f
    go true = (length-set u a t ∙ f.0, λ b j. set_at u a b t (λ (z : ℤ). unsigned_abs z ≤ 2 ^ 30) (omega (arith, f.0)) (λ e. k) (λ n. f.1 b j))

lowered_keeps : (u : List ℤ) (a : ℕ) (t : ℤ) (x : State) → a < length u → Holds (Some u) x → signed a x ≤ℤ t → Holds (Some (lowered a t u)) x
lowered_keeps u a t x k h s = go (int_lt t (part u a))
  where
    go : (b : Bool) → Holds (Some (cond b (slice_set u a t) u)) x
    go false = h
    go true = λ b j. set_at u a b t (λ (z : ℤ). signed b x ≤ℤ z) k (λ e. subst (λ (n : ℕ). signed n x ≤ℤ t) e s) (λ n. h b j)

lowered_adds_none : (u : List ℤ) (a : ℕ) (t : ℤ) (x : State) → a < length u → Holds (Some (lowered a t u)) x → Holds (Some u) x
lowered_adds_none u a t x k = go (int_lt t (part u a)) refl
  where
    -- a limit that was set is the lower one
    go : (b : Bool) → int_lt t (part u a) ≡ b → Holds (Some (cond b (slice_set u a t) u)) x → Holds (Some u) x
    go false e h = h
    go true e h = λ b j. set_at u a b t (λ (z : ℤ). signed b x ≤ℤ z → signed b x ≤ℤ part u b) k (λ q s. subst (λ (n : ℕ). signed b x ≤ℤ part u n) q (omega (arith, ints))) (λ n s. s) (h b j)

-- a cut of which the number may be ignored
cut_fits : (a : SignedAxis) (t : ℤ) (f : Form) → Fitting f → Fitting (trimmed a t f)
cut_fits a t None h = tt
cut_fits a t (Some u) h = go (nat_le (unsigned_abs t) (2 ^ 30)) refl
  where
    go : (b : Bool) → nat_le (unsigned_abs t) (2 ^ 30) ≡ b → Fitting (Some (cond b (lowered a.index t u) u))
    go false e = h
    go true e = lowered_fits u a.index t a.eight (leb-true (unsigned_abs t) (2 ^ 30) e) h

cut_keeps : (a : SignedAxis) (t : ℤ) (f : Form) (x : State) → Fitting f → Holds f x → signed a.index x ≤ℤ t → Holds (trimmed a t f) x
cut_keeps a t None x h b s = tt
cut_keeps a t (Some u) x h b s = go (nat_le (unsigned_abs t) (2 ^ 30))
  where
    go : (c : Bool) → Holds (Some (cond c (lowered a.index t u) u)) x
    go false = b
    go true = lowered_keeps u a.index t x (omega (arith, h.0, a.eight)) b s

cut_adds_none : (a : SignedAxis) (t : ℤ) (f : Form) (x : State) → Fitting f → Holds (trimmed a t f) x → Holds f x
cut_adds_none a t None x h b = tt
cut_adds_none a t (Some u) x h b = go (nat_le (unsigned_abs t) (2 ^ 30)) b
  where
    go : (c : Bool) → Holds (Some (cond c (lowered a.index t u) u)) x → Holds (Some u) x
    go false b = b
    go true b = lowered_adds_none u a.index t x (omega (arith, h.0, a.eight)) b

pub box_lawful : Lawful box
box_lawful = record {
  fill_fits = λ s f h. listed_limits (start_limit s) (start_limit_size s);
  advance_fits = λ m f h. advance_fits m f h;
  cut_fits = cut_fits;
  fill = λ s f x h b. listed_holds (start_limit s) x (λ a k. signed-near (a % 2 == 0) (x (a / 2)) (centre s (a / 2)) (width s (a / 2)) (b (a / 2) (omega arith)));
  advance = λ m f x y h b p. advance_holds m f x y b p;
  bound_limit = λ l f h. bound_limit l f h;
  bound = λ l f x h b. bound_holds l f x b;
  cut_keeps = λ a t f x h b s. cut_keeps a t f x h b s;
  cut_adds_none = λ a t f x h b. cut_adds_none a t f x h b;
}
