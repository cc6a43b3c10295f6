-- Arrays that the library makes from a function of the index or of another array's elements, as lists that are written from the index.
use Rattle.std.proofs.Common.{◌≡◌, ℕ, zero, suc, ◌+◌, ◌<◌, List, get_or, sym, refl, ap, ◌∙◌, subst, arith}
use denote.Param.Members.{Mut, Called}
use Rattle.std.specs.Array.{IsFromFnResultFrom, IsFromFnResult, MapsFrom, IsMapOf}
use Rattle.arith.specs.Sums.{listed}
use Rattle.arith.proofs.Sums.{listed_is}

module _ {F A : Type 0} {g : Mut F (ℕ × Unit {0}) A} (h : ℕ → A) (n : ℕ) (f : F) (ys : List A) (d : A)
    (calls : (i : ℕ) (y : A) (q : F) → i < n → Called g f (i, tt) y q → (q ≡ f) × (y ≡ h i)) where
  -- each call answers h of its index and leaves the function as it was
  from_fn_at : (a m : ℕ) (p : F) → a + m ≡ n → p ≡ f → IsFromFnResultFrom g p ys a m → (i : ℕ) → i < m → get_or ys (a + i) d ≡ h (a + i)
  from_fn_at a zero p k e r i l = absurd (omega arith)
  from_fn_at a (suc m) p k e (q, y, w, c, r) zero l =
      let now : a + 0 ≡ a = omega arith in
      ap (λ (k : ℕ). get_or ys k d) now ∙ w.1 d ∙ (calls a y q (omega arith) (subst (λ (t : F). Called g t (a, tt) y q) e c)).1 ∙ ap h (sym now)
  from_fn_at a (suc m) p k e (q, y, w, c, r) (suc i) l =
      let next : a + suc i ≡ a + 1 + i = omega arith in
      let same = (calls a y q (omega arith) (subst (λ (t : F). Called g t (a, tt) y q) e c)).0 in
      ap (λ (k : ℕ). get_or ys k d) next ∙ from_fn_at (a + 1) m q (omega arith) same r i (omega arith) ∙ ap h (sym next)

  pub from_fn_listed : IsFromFnResult g f ys n → ys ≡ listed n h
  from_fn_listed r = listed_is n h d ys r.long
      (λ i l. let from : 0 + i ≡ i = omega arith in ap (λ (k : ℕ). get_or ys k d) (sym from) ∙ from_fn_at 0 n f (omega arith) refl r.each i l ∙ ap h from)

module _ {F A B : Type 0} {g : Mut F (A × Unit {0}) B} (h : A → B) (xs : List A) (n : ℕ) (f : F) (ys : List B) (d : A) (e : B)
    (calls : (x : A) (y : B) (q : F) → Called g f (x, tt) y q → (q ≡ f) × (y ≡ h x)) where
  -- each call answers h of its element and leaves the function as it was
  map_at : (a m : ℕ) (p : F) → p ≡ f → MapsFrom g p xs ys a m → (i : ℕ) → i < m → get_or ys (a + i) e ≡ h (get_or xs (a + i) d)
  map_at a zero p k r i l = absurd (omega arith)
  map_at a (suc m) p k (q, x, y, v, w, c, r) zero l =
      let now : a + 0 ≡ a = omega arith in
      ap (λ (k : ℕ). get_or ys k e) now ∙ w.1 e ∙ (calls x y q (subst (λ (t : F). Called g t (x, tt) y q) k c)).1
      ∙ ap h (sym (v.1 d)) ∙ ap (λ (k : ℕ). h (get_or xs k d)) (sym now)
  map_at a (suc m) p k (q, x, y, v, w, c, r) (suc i) l =
      let next : a + suc i ≡ a + 1 + i = omega arith in
      let same = (calls x y q (subst (λ (t : F). Called g t (x, tt) y q) k c)).0 in
      ap (λ (k : ℕ). get_or ys k e) next ∙ map_at (a + 1) m q same r i (omega arith) ∙ ap (λ (k : ℕ). h (get_or xs k d)) (sym next)

  pub map_listed : IsMapOf g f xs ys n → ys ≡ listed n (λ i. h (get_or xs i d))
  map_listed r = listed_is n (λ i. h (get_or xs i d)) e ys r.long
      (λ i l. let from : 0 + i ≡ i = omega arith in
      ap (λ (k : ℕ). get_or ys k e) (sym from) ∙ map_at 0 n f refl r.each i l ∙ ap (λ (k : ℕ). h (get_or xs k d)) from)
