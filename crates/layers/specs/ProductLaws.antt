-- The reduced product of two lawful domains is lawful.
use Rattle.std.specs.Prelude.{◌≡◌, ◌^◌, ◌≤◌, Bool, true, false, cond, List, [], ◌∷◌, ℤ, ◌≤ℤ◌, Some, None, Option, int_lt, unsigned_abs}
use Rattle.std.proofs.Common.{◌∙◌}
use Rattle.arith.specs.Products.{dot}
use Rattle.arith.proofs.Bridge.{dot-left}
use Rattle.dynamics.specs.Values.{State, along}
use Rattle.domains.specs.declared.axis.SignedAxis.{SignedAxis}
use Rattle.domains.specs.AllAxes.{all_axes}
use Rattle.domains.specs.Axes.{signed, unit, axis}
use Rattle.domains.specs.Meaning.{Meaning, Answer, Lawful}
use Rattle.domains.specs.AxesLemmas.{unit-dot}
use Rattle.layers.specs.Product.{lesser, cut_both, narrowed, narrowed_by, product}

-- what holds of both bounds holds of the lesser
pub lesser_answer : (a b : Option ℤ) (P : ℤ → Type 0) → Answer a P → Answer b P → Answer (lesser a b) P
lesser_answer None b P h k = k
lesser_answer (Some x) None P h k = h
lesser_answer (Some x) (Some y) P h k = go (int_lt y x)
  where
    go : (c : Bool) → P (cond c y x)
    go true = k
    go false = h

-- an axis's bound is one of the signed part
signed_is : (a : SignedAxis) (x : State) → dot (along (axis a.index)) x ≡ signed a.index x
signed_is a x = dot-left (unit a.index) x ∙ unit-dot x a.index a.eight

module _ {P Q : Type 0} {p : Meaning P} {q : Meaning Q} (u : Lawful p) (v : Lawful q) where
  Fits : P × Q → Type 0
  Fits f = p.fits f.0 × q.fits f.1

  Holds : P × Q → State → Type 0
  Holds f x = p.holds f.0 x × q.holds f.1 x

  -- ---- a cut of both sides
  cut_fits : (a : SignedAxis) (o : Option ℤ) (f : P × Q) → Fits f → Fits (cut_both p q a o f)
  unfolding Fits
  cut_fits a None f h = h
  cut_fits a (Some t) f h = (u.cut_fits a t f.0 h.0, v.cut_fits a t f.1 h.1)

  cut_keeps : (a : SignedAxis) (o : Option ℤ) (f : P × Q) (x : State) → Fits f → Holds f x → Answer o (λ b. signed a.index x ≤ℤ b) → Holds (cut_both p q a o f) x
  unfolding Fits Holds
  cut_keeps a None f x h b s = b
  cut_keeps a (Some t) f x h b s = (u.cut_keeps a t f.0 x h.0 b.0 s, v.cut_keeps a t f.1 x h.1 b.1 s)

  -- ---- narrowing
  side-bound : (a : SignedAxis) (f : P × Q) (x : State) → Fits f → Holds f x
      → Answer (lesser (p.bounded (axis a.index) f.0) (q.bounded (axis a.index) f.1)) (λ b. signed a.index x ≤ℤ b)
  unfolding Fits Holds
  side-bound a f x h b =
      rw (← signed_is a x)
      (lesser_answer (p.bounded (axis a.index) f.0) (q.bounded (axis a.index) f.1) (λ t. dot (along (axis a.index)) x ≤ℤ t)
      (u.bound (axis a.index) f.0 x h.0 b.0) (v.bound (axis a.index) f.1 x h.1 b.1))

  narrowed_fits : (as' : List SignedAxis) (f : P × Q) → Fits f → Fits (narrowed_by p q as' f)
  unfolding narrowed_by
  narrowed_fits [] f h = h
  narrowed_fits (a ∷ as') f h = narrowed_fits as' (narrowed p q a f) (cut_fits a (lesser (p.bounded (axis a.index) f.0) (q.bounded (axis a.index) f.1)) f h)

  narrowed_keeps : (as' : List SignedAxis) (f : P × Q) (x : State) → Fits f → Holds f x → Holds (narrowed_by p q as' f) x
  unfolding narrowed_by
  narrowed_keeps [] f x h b = b
  narrowed_keeps (a ∷ as') f x h b =
      let o = lesser (p.bounded (axis a.index) f.0) (q.bounded (axis a.index) f.1) in
      narrowed_keeps as' (narrowed p q a f) x (cut_fits a o f h) (cut_keeps a o f x h b (side-bound a f x h b))

  pub product_lawful : Lawful (product p q)
  unfolding Fits Holds
  product_lawful = record {
    fill_fits = λ s f h. narrowed_fits all_axes (p.filled s f.0, q.filled s f.1) (u.fill_fits s f.0 h.0, v.fill_fits s f.1 h.1);
    advance_fits = λ m f h. narrowed_fits all_axes (p.advanced m f.0, q.advanced m f.1) (u.advance_fits m f.0 h.0, v.advance_fits m f.1 h.1);
    cut_fits = λ a t f h. (u.cut_fits a t f.0 h.0, v.cut_fits a t f.1 h.1);
    fill = λ s f x h b. narrowed_keeps all_axes (p.filled s f.0, q.filled s f.1) x (u.fill_fits s f.0 h.0, v.fill_fits s f.1 h.1) (u.fill s f.0 x h.0 b, v.fill s f.1 x h.1 b);
    advance = λ m f x y h b r. narrowed_keeps all_axes (p.advanced m f.0, q.advanced m f.1) y (u.advance_fits m f.0 h.0, v.advance_fits m f.1 h.1)
        (u.advance m f.0 x y h.0 b.0 r, v.advance m f.1 x y h.1 b.1 r);
    bound_limit = λ l f h. lesser_answer (p.bounded l f.0) (q.bounded l f.1) (λ b. unsigned_abs b ≤ 2 ^ 52) (u.bound_limit l f.0 h.0) (v.bound_limit l f.1 h.1);
    bound = λ l f x h b. lesser_answer (p.bounded l f.0) (q.bounded l f.1) (λ t. dot (along l) x ≤ℤ t) (u.bound l f.0 x h.0 b.0) (v.bound l f.1 x h.1 b.1);
    cut_keeps = λ a t f x h b s. (u.cut_keeps a t f.0 x h.0 b.0 s, v.cut_keeps a t f.1 x h.1 b.1 s);
    cut_adds_none = λ a t f x h b. (u.cut_adds_none a t f.0 x h.0 b.0, v.cut_adds_none a t f.1 x h.1 b.1);
  }
