-- The split of a lawful domain is lawful.
use Rattle.std.specs.Prelude.{◌^◌, ◌≤◌, Bool, true, false, cond, ℤ, ◌≤ℤ◌, Some, None, Option, int_lt, unsigned_abs, refl}
use Rattle.std.proofs.Common.{inl, inr, ⊎_elim, arith}
use Rattle.std.proofs.lemmas.Int.{ints, int_max_is}
use Rattle.arith.specs.Products.{dot}
use Rattle.dynamics.specs.Runs.{Started}
use Rattle.dynamics.specs.Values.{along}
use Rattle.dynamics.proofs.Halves.{halves_cover}
use Rattle.domains.specs.Meaning.{Meaning, Answer, Lawful}
use Rattle.layers.specs.Split.{greater, lower_half, upper_half, split}

-- what holds of both present bounds holds of the greater
greater_answer : (a b : Option ℤ) (P : ℤ → Type 0) → Answer a P → Answer b P → Answer (greater a b) P
greater_answer None b P h k = tt
greater_answer (Some x) None P h k = tt
greater_answer (Some x) (Some y) P h k = go (int_lt y x)
  where
    go : (c : Bool) → P (cond c x y)
    go true = h
    go false = k

-- the greater is at least each of the two
greater-left : (a b : Option ℤ) (z : ℤ) → Answer a (λ t. z ≤ℤ t) → Answer (greater a b) (λ t. z ≤ℤ t)
greater-left None b z h = tt
greater-left (Some x) None z h = tt
greater-left (Some x) (Some y) z h = omega (arith, ints, int_max_is x y)

greater_right : (a b : Option ℤ) (z : ℤ) → Answer b (λ t. z ≤ℤ t) → Answer (greater a b) (λ t. z ≤ℤ t)
greater_right None b z h = tt
greater_right (Some x) None z h = tt
greater_right (Some x) (Some y) z h = omega (arith, ints, int_max_is x y)

pub split_lawful : {F : Type 0} {d : Meaning F} → Lawful d → Lawful (split d)
split_lawful {d = d} u = record {
  fill_fits = λ s f h. (u.fill_fits (lower_half s) f.0 h.0, u.fill_fits (upper_half s) f.1 h.1);
  advance_fits = λ m f h. (u.advance_fits m f.0 h.0, u.advance_fits m f.1 h.1);
  cut_fits = λ a t f h. (u.cut_fits a t f.0 h.0, u.cut_fits a t f.1 h.1);
  fill = λ s f x h b. ⊎_elim (λ (l : Started (lower_half s) x). inl (u.fill (lower_half s) f.0 x h.0 l)) (λ (r : Started (upper_half s) x). inr (u.fill (upper_half s) f.1 x h.1 r))
      ((halves_cover s (lower_half s) (upper_half s) refl refl refl refl).covers x b);
  advance = λ m f x y h b r. ⊎_elim (λ (k : d.holds f.0 x). inl (u.advance m f.0 x y h.0 k r)) (λ (k : d.holds f.1 x). inr (u.advance m f.1 x y h.1 k r)) b;
  bound_limit = λ l f h. greater_answer (d.bounded l f.0) (d.bounded l f.1) (λ b. unsigned_abs b ≤ 2 ^ 52) (u.bound_limit l f.0 h.0) (u.bound_limit l f.1 h.1);
  bound = λ l f x h b. ⊎_elim
      (λ (k : d.holds f.0 x). greater-left (d.bounded l f.0) (d.bounded l f.1) (dot (along l) x) (u.bound l f.0 x h.0 k))
      (λ (k : d.holds f.1 x). greater_right (d.bounded l f.0) (d.bounded l f.1) (dot (along l) x) (u.bound l f.1 x h.1 k)) b;
  cut_keeps = λ a t f x h b s. ⊎_elim (λ (k : d.holds f.0 x). inl (u.cut_keeps a t f.0 x h.0 k s)) (λ (k : d.holds f.1 x). inr (u.cut_keeps a t f.1 x h.1 k s)) b;
  cut_adds_none = λ a t f x h b. ⊎_elim (λ (k : d.holds (d.trimmed a t f.0) x). inl (u.cut_adds_none a t f.0 x h.0 k)) (λ (k : d.holds (d.trimmed a t f.1) x). inr (u.cut_adds_none a t f.1 x h.1 k)) b;
}
