-- The array of the eight signed axes, and arrays that the code makes from it.
use Rattle.std.proofs.Common.{◌≡◌, ℕ, ◌<◌, List, ℤ, pos, get_or, sym, refl, ap, ◌∙◌, lit<}
use denote.Param.Members.{Mut, Called}
use Rattle.std.specs.Array.{IsFromFnResult, IsMapOf}
use Rattle.arith.specs.Sums.{listed}
use Rattle.arith.proofs.FromFn.{from_fn_listed, map_listed}
use Rattle.arith.proofs.Indices.{by8}
use Rattle.domains.specs.declared.axis.SignedAxis.{SignedAxis}
use Rattle.domains.specs.AllAxes.{all_axes}
use Rattle.domains.specs.AxesLemmas.{axis_same}

first : SignedAxis
first = record { index = 0; eight = lit< tt }

place : ℕ → SignedAxis
place i = get_or all_axes i first

-- axis i stands at place i
numbered : (i : ℕ) → i < 8 → (place i).index ≡ i
unfolding first place
numbered = by8 (λ i. (place i).index ≡ i) refl refl refl refl refl refl refl refl

in_places : listed 8 place ≡ all_axes
unfolding listed first place
in_places = refl

in_order : (f : ℕ → ℤ) → listed 8 (λ i. f (place i).index) ≡ listed 8 f
unfolding listed first place
in_order f = refl

-- made from the number
pub axes_made : {F : Type 0} {g : Mut F (ℕ × Unit {0}) SignedAxis} {t : F} {ys : List SignedAxis}
    → ((i : ℕ) (a : SignedAxis) (q : F) → i < 8 → Called g t (i, tt) a q → (q ≡ t) × (a.index ≡ i)) → IsFromFnResult g t ys 8 → ys ≡ all_axes
axes_made {t = t} {ys = ys} calls r =
    from_fn_listed place 8 t ys first (λ i a q l h. let k = calls i a q l h in (k.0, axis_same a (place i) (k.1 ∙ sym (numbered i l)))) r ∙ in_places

-- a number for each axis
pub map_axes : {F : Type 0} {g : Mut F (SignedAxis × Unit {0}) ℤ} (f : ℕ → ℤ) {xs : List SignedAxis} {t : F} {ys : List ℤ} → xs ≡ all_axes
    → ((a : SignedAxis) (y : ℤ) (q : F) → Called g t (a, tt) y q → (q ≡ t) × (y ≡ f a.index)) → IsMapOf g t xs ys 8 → ys ≡ listed 8 f
unfolding place
map_axes f {xs} {t} {ys} e calls r =
    map_listed (λ (a : SignedAxis). f a.index) xs 8 t ys first (pos 0) calls r
    ∙ ap (λ (xs : List SignedAxis). listed 8 (λ i. f (get_or xs i first).index)) e ∙ in_order f
