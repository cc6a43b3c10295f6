-- Sums and lists with one more at the end, as a loop makes them.
use Rattle.std.specs.Prelude.{◌≡◌, ℕ, zero, suc, ◌+◌, ◌<◌, ◌≤◌, List, [], ◌∷◌, ◌++◌, map, length, take, ℤ, slice_index_or, remove, unsigned_abs, refl}
use Rattle.std.proofs.Common.{sym, ap, ap₂, ◌∙◌, append_assoc, add-one, arith}
use Rattle.std.proofs.lemmas.List.{take_more, map_more}
use Rattle.arith.specs.Rounding.{residue}
use Rattle.arith.specs.Sums.{listed, part}
use Rattle.arith.specs.Products.{dot}
use Rattle.zonotope.specs.Shape.{size, reaches, sizes}
use Rattle.zonotope.specs.Advance.{residues}

pub listed_last : {A : Type 0} (n : ℕ) (f : ℕ → A) → listed (suc n) f ≡ listed n f ++ (f n ∷ [])
unfolding listed
listed_last zero f = refl
listed_last (suc n) f = ap (λ xs. f 0 ∷ xs) (listed_last n (λ i. f (suc i)))

-- a list that grows by what is written from the index
pub listed_pushed : {A : Type 0} (n : ℕ) (f : ℕ → A) (base old : List A) {new : List A} {x : A} → new ≡ old ++ (x ∷ []) → old ≡ base ++ listed n f → x ≡ f n → new ≡ base ++ listed (n + 1) f
listed_pushed n f base old {new} {x} e p q =
    e ∙ ap₂ (λ xs y. xs ++ (y ∷ [])) p q ∙ append_assoc base (listed n f) (f n ∷ [])
    ∙ ap (λ xs. base ++ xs) (sym (listed_last n f) ∙ ap (λ (k : ℕ). listed k f) (sym (add-one n)))

-- a list that grows by the images of another's elements
pub map_pushed : {A : Type 0} (f : A → A) (d : A) (xs : List A) (k : ℕ) (old : List A) {new : List A} {x : A} → k < length xs → new ≡ old ++ (x ∷ []) → old ≡ map f (take k xs) → x ≡ f (slice_index_or xs k d) → new ≡ map f (take (k + 1) xs)
map_pushed f d xs k old h e p q = e ∙ ap₂ (λ ys y. ys ++ (y ∷ [])) p q ∙ sym (map_more f xs k d h)

-- ---- one generator more
sizes-more : (gs : List (List ℤ)) (g : List ℤ) (i : ℕ) → sizes (gs ++ (g ∷ [])) i ≡ sizes gs i + size g i
sizes-more [] g i = omega arith
sizes-more (h ∷ gs) g i = let e = sizes-more gs g i in omega arith

residues-more : (us : List (List ℤ)) (u : List ℤ) (i : ℕ) → residues (us ++ (u ∷ [])) i ≡ residues us i + residue (part u i)
residues-more [] u i = omega arith
residues-more (v ∷ us) u i = let e = residues-more us u i in omega arith

reaches_more : (l : ℕ → ℤ) (gs : List (List ℤ)) (g : List ℤ) → reaches l (gs ++ (g ∷ [])) ≡ reaches l gs + unsigned_abs (dot l (part g))
reaches_more l [] g = omega arith
reaches_more l (h ∷ gs) g = let e = reaches_more l gs g in omega arith

pub sizes-next : (gs : List (List ℤ)) (k i : ℕ) → k < length gs → sizes (take (k + 1) gs) i ≡ sizes (take k gs) i + size (slice_index_or gs k []) i
sizes-next gs k i h = ap (λ xs. sizes xs i) (take_more gs k [] h) ∙ sizes-more (take k gs) (slice_index_or gs k []) i

pub residues-next : (us : List (List ℤ)) (k i : ℕ) → k < length us → residues (take (k + 1) us) i ≡ residues (take k us) i + residue (part (slice_index_or us k []) i)
residues-next us k i h = ap (λ xs. residues xs i) (take_more us k [] h) ∙ residues-more (take k us) (slice_index_or us k []) i

pub reaches-next : (l : ℕ → ℤ) (gs : List (List ℤ)) (k : ℕ) → k < length gs → reaches l (take (k + 1) gs) ≡ reaches l (take k gs) + unsigned_abs (dot l (part (slice_index_or gs k [])))
reaches-next l gs k h = ap (reaches l) (take_more gs k [] h) ∙ reaches_more l (take k gs) (slice_index_or gs k [])

-- ---- one generator out
pub sizes-removed : (gs : List (List ℤ)) (p i : ℕ) → sizes gs i ≡ size (slice_index_or gs p []) i + sizes (remove gs p) i
sizes-removed [] zero i = refl
sizes-removed [] (suc p) i = refl
sizes-removed (g ∷ gs) zero i = refl
sizes-removed (g ∷ gs) (suc p) i = let e = sizes-removed gs p i in omega arith

-- the first of them
pub sizes-take : (gs : List (List ℤ)) (k i : ℕ) → sizes (take k gs) i ≤ sizes gs i
sizes-take gs zero i = omega arith
sizes-take [] (suc k) i = omega arith
sizes-take (g ∷ gs) (suc k) i = omega (arith, sizes-take gs k i)
