-- Inputs that a loop takes one by one.
use Rattle.std.proofs.Common.{◌≡◌, ℕ, ◌+◌, ◌<◌, ◌≤◌, List, [], ◌∷◌, ◌++◌, length, get_or, drop, sym, ap, ◌∙◌, ap₂, append_assoc, append-nil}
use Rattle.std.proofs.lemmas.List.{at_drop_more, at_drop_all}
use Rattle.std.specs.List.{fold, scan}

module _ {S A B : Type 0} (step : S → A → S) (out : S → A → B) (inputs : List A) where
  fold-more : (i : ℕ) (s : S) (a : A) → i < length inputs → a ≡ get_or inputs i a → fold step s (drop i inputs) ≡ fold step (step s a) (drop (i + 1) inputs)
  fold-more i s a h e = at_drop_more (λ t. fold step s t) inputs i a h ∙ ap (λ (b : A). fold step (step s b) (drop (i + 1) inputs)) (sym e)

  scan_more : (i : ℕ) (s : S) (a : A) → i < length inputs → a ≡ get_or inputs i a → scan step out s (drop i inputs) ≡ out s a ∷ scan step out (step s a) (drop (i + 1) inputs)
  scan_more i s a h e = at_drop_more (λ t. scan step out s t) inputs i a h ∙ ap (λ (b : A). out s b ∷ scan step out (step s b) (drop (i + 1) inputs)) (sym e)

  -- one turn of a loop: the new state t, and what was noted with one more at the end
  pub fold_turn : (i : ℕ) (s t r : S) (a : A) → i < length inputs → a ≡ get_or inputs i a → t ≡ step s a → fold step s (drop i inputs) ≡ r → fold step t (drop (i + 1) inputs) ≡ r
  fold_turn i s t r a h e p q = ap (λ (u : S). fold step u (drop (i + 1) inputs)) p ∙ sym (fold-more i s a h e) ∙ q

  pub scan_turn : (i : ℕ) (s t : S) (a : A) (b : B) (ys zs r : List B) → i < length inputs → a ≡ get_or inputs i a → t ≡ step s a → b ≡ out s a → zs ≡ ys ++ (b ∷ [])
      → ys ++ scan step out s (drop i inputs) ≡ r → zs ++ scan step out t (drop (i + 1) inputs) ≡ r
  scan_turn i s t a b ys zs r h e p o z q =
      ap₂ (λ (xs : List B) (u : S). xs ++ scan step out u (drop (i + 1) inputs)) z p
      ∙ append_assoc ys (b ∷ []) (scan step out (step s a) (drop (i + 1) inputs))
      ∙ ap (λ (c : B). ys ++ (c ∷ scan step out (step s a) (drop (i + 1) inputs))) o
      ∙ ap (λ (xs : List B). ys ++ xs) (sym (scan_more i s a h e)) ∙ q

  -- the end of the loop
  pub fold_end : (i : ℕ) (s r : S) → length inputs ≤ i → fold step s (drop i inputs) ≡ r → s ≡ r
  fold_end i s r h q = sym (at_drop_all (λ t. fold step s t) inputs i h) ∙ q

  pub scan_end : (i : ℕ) (s : S) (ys r : List B) → length inputs ≤ i → ys ++ scan step out s (drop i inputs) ≡ r → ys ≡ r
  scan_end i s ys r h q = sym (append-nil ys) ∙ sym (at_drop_all (λ t. ys ++ scan step out s t) inputs i h) ∙ q
