use Rattle.std.proofs.Common.{◌≡◌, ℕ, ◌^◌, ◌≤◌, List, [], get_or, ℤ, Some, None, sym, refl, ap, ◌∙◌, subst, arith}
use Rattle.std.specs.List.{remove, slice_get}
use Rattle.std.specs.Option.{option_map}
use Rattle.std.proofs.lemmas.Option.{get_or_from_slice_get}
use Rattle.zonotope.specs.declared.fold.Folding.{Folding}
use Rattle.zonotope.specs.Foldings.{folding_shape}
use Rattle.zonotope.specs.Shape.{Shape}
use Rattle.zonotope.specs.Choice.{lightest, longest}
use Rattle.zonotope.specs.Fold.{grown, folded}
use Rattle.zonotope.specs.Spread.{spread_folded, spread_charged}
use Rattle.zonotope.specs.Forms.{standing}
use Rattle.zonotope.specs.Ranges.{Entries, Roomy, AllEntries}
use Rattle.zonotope.proofs.Roomy.{roomy_grown, roomy_charged}
use Rattle.zonotope.proofs.Same.{shape_same}
use Rattle.zonotope.proofs.StoredLimits.{entry-size}
use Rattle.zonotope.proofs.fold.Folding.fold.Goals as goal

-- every entry lies within the room
wide : (n : ℕ) (f : Folding) {gs : List (List ℤ)} → gs ≡ standing f.generators → 2 ^ 50 ≤ n → AllEntries n gs
wide n f e l j i q = rw e (omega (arith, (f.roomy i q).1, entry-size (standing f.generators) j i))

pub lightest-place-requires-clause-entries : goal.lightest-place-requires-clause-entries
lightest-place-requires-clause-entries c = wide (2 ^ 60) c.args.self.now c.as_slice.ensures (omega arith)

-- the lightest generator taken out
module _ (f : Folding) {p : ℕ} {x : List ℤ} {gs new : List (List ℤ)} (list : gs ≡ standing f.generators) (place : p ≡ lightest gs)
    (here : slice_get (standing f.generators) p ≡ Some x) (rest : new ≡ remove (standing f.generators) p) where
  at : p ≡ lightest (standing f.generators)
  at = place ∙ ap lightest list

  chosen : x ≡ get_or (standing f.generators) (lightest (standing f.generators)) []
  chosen = sym (get_or_from_slice_get (standing f.generators) p x [] here) ∙ ap (λ (k : ℕ). get_or (standing f.generators) k []) at

  left : new ≡ remove (standing f.generators) (lightest (standing f.generators))
  left = rest ∙ ap (remove (standing f.generators)) at

  axis-room : {a : List ℤ} → a ≡ grown f.axis x → Roomy 1 (2 ^ 50) a new
  axis-room e =
      let z = standing f.generators in
      subst (λ (a : List ℤ). Roomy 1 (2 ^ 50) a new) (sym (e ∙ ap (grown f.axis) chosen))
      (subst (Roomy 1 (2 ^ 50) (grown f.axis (get_or z (lightest z) []))) (sym left) (roomy_grown (2 ^ 50) (lightest z) f.axis z f.roomy))

  spread-room : (w : List ℤ) {s : List ℤ} → f.spread ≡ Some w → s ≡ spread_folded (longest x) x w → Roomy 2 (2 ^ 50) s new
  spread-room w h e =
      let z = standing f.generators in
      let g = get_or z (lightest z) [] in
      subst (λ (s : List ℤ). Roomy 2 (2 ^ 50) s new) (sym (e ∙ ap (λ (v : List ℤ). spread_folded (longest v) v w) chosen))
      (subst (Roomy 2 (2 ^ 50) (spread_folded (longest g) g w)) (sym left) (roomy_charged (2 ^ 50) (lightest z) (longest g) w z (f.spread_roomy w h)))

  -- an absent spread
  no-spread : f.spread ≡ None → (s : List ℤ) → f.spread ≡ Some s → Roomy 2 (2 ^ 50) s new
  no-spread h s e = absurd cc

  shape-is : {a : List ℤ} → a ≡ grown f.axis x → ◌≡◌ {A = Shape} (record { centre = f.centre; axis = a; generators = new }) (folded (lightest (standing f.generators)) (folding_shape f))
  unfolding folded
  shape-is e = shape_same refl (e ∙ ap (grown f.axis) chosen) left

  spread-is : (w : List ℤ) {s : List ℤ} → f.spread ≡ Some w → s ≡ spread_folded (longest x) x w → Some s ≡ option_map (spread_charged (folding_shape f)) f.spread
  unfolding spread_charged
  spread-is w h e = ap Some (e ∙ ap (λ (v : List ℤ). spread_folded (longest v) v w) chosen) ∙ ap (option_map (spread_charged (folding_shape f))) (sym h)

-- its entries
taken-entries : (n : ℕ) (f : Folding) (p : ℕ) {x : List ℤ} → slice_get (standing f.generators) p ≡ Some x → 2 ^ 50 ≤ n → Entries n x
taken-entries n f p {x} e l i q = rw (← get_or_from_slice_get (standing f.generators) p x [] e) (wide n f refl l p i q)

pub grown-self-requires-clause-entries : goal.grown-self-requires-clause-entries
grown-self-requires-clause-entries c = taken-entries (2 ^ 61) c.args.self.now c.lightest-place.result c.in-Some.ensures.0 (omega arith)

pub charged-requires-clause-generator : goal.charged-requires-clause-generator
charged-requires-clause-generator c = taken-entries (2 ^ 59) c.args.self.now c.lightest-place.result c.in-Some.ensures.0 (omega arith)

pub invariant_of-self : goal.invariant_of-self
invariant_of-self c =
    let f = c.args.self.now in
    let t = c.in-Some.ensures in
    record {
      limited = f.limited;
      roomy = axis-room f c.as_slice.ensures c.lightest-place.ensures.value t.0 t.2 c.grown-self.ensures;
      spread_roomy = λ s e. spread-room f c.as_slice.ensures c.lightest-place.ensures.value t.0 t.2 c.in-Some-spread.spread c.in-Some-spread.is (let same : s ≡ c.charged.result = cc in same ∙ c.charged.ensures);
    }

pub invariant_of-self-in_default-spread : goal.invariant_of-self-in_default-spread
invariant_of-self-in_default-spread c =
    let f = c.args.self.now in
    let t = c.in-Some.ensures in
    record {
      limited = f.limited;
      roomy = axis-room f c.as_slice.ensures c.lightest-place.ensures.value t.0 t.2 c.grown-self.ensures;
      spread_roomy = no-spread f c.as_slice.ensures c.lightest-place.ensures.value t.0 t.2 c.in_default-spread.is;
    }

pub returns-in-Some-spread-clause-shape : goal.returns-in-Some-spread-clause-shape
returns-in-Some-spread-clause-shape c =
    let t = c.in-Some.ensures in
    shape-is c.args.self.now c.as_slice.ensures c.lightest-place.ensures.value t.0 t.2 c.grown-self.ensures

pub returns-in-Some-spread-clause-spread : goal.returns-in-Some-spread-clause-spread
returns-in-Some-spread-clause-spread c =
    let t = c.in-Some.ensures in
    spread-is c.args.self.now c.as_slice.ensures c.lightest-place.ensures.value t.0 t.2 c.in-Some-spread.spread c.in-Some-spread.is c.charged.ensures

pub returns-in_default-spread-clause-shape : goal.returns-in_default-spread-clause-shape
returns-in_default-spread-clause-shape c =
    let t = c.in-Some.ensures in
    shape-is c.args.self.now c.as_slice.ensures c.lightest-place.ensures.value t.0 t.2 c.grown-self.ensures
