-- The choices of a fold.
use Rattle.std.proofs.Common.{◌≡◌, ℕ, zero, suc, ◌+◌, ◌-◌, ◌<◌, ◌≤◌, min, max, Bool, true, false, eqb, leb, List, length, ℤ, refl, ◌∙◌, ⊎_elim, arith, eq-eqb, eqb-true, leb-false, leb-true}
use borrow.Author.Tests.{eqb-false}
use Rattle.std.proofs.lemmas.Bool.{cases_order}
use Rattle.arith.proofs.Indices.{by4}
use Rattle.arith.proofs.Bridge.{total-four}
use Rattle.zonotope.specs.Shape.{Shape, size}
use Rattle.zonotope.specs.Fold.{folded}
use Rattle.std.proofs.lemmas.List.Edits.{length-remove}
use Rattle.zonotope.specs.Choice.{greatest, least, first, longest, weight, weights, lightest, FirstLeast, FirstGreatest}

-- the first place that passes, if one does
record First (n : ℕ) (t : ℕ → Bool) (p : ℕ) : Type 0 where
  inside : p < n
  passes : t p ≡ true
  none : (k : ℕ) → k < p → t k ≡ false

first_is : (n : ℕ) (t : ℕ → Bool) (i : ℕ) → i < n → t i ≡ true → First n t (first n t)
unfolding first
first_is zero t i h e = absurd (omega arith)
first_is (suc n) t i h e = go (first_is n (λ i. t (suc i))) (t 0) refl i h e
  where
    go : ((i : ℕ) → i < n → t (suc i) ≡ true → First n (λ i. t (suc i)) (first n (λ i. t (suc i)))) → (b : Bool) → t 0 ≡ b → (i : ℕ) → i < suc n → t i ≡ true
        → First (suc n) t (elim b [ true ↦ 0 | false ↦ suc (first n (λ i. t (suc i))) ])
    go more true q i h e = record { inside = omega arith; passes = q; none = λ k j. absurd (omega arith) }
    go more false q zero h e = let z : ◌≡◌ {A = ℕ} 0 1 = cc in absurd (omega arith)
    go more false q (suc i) h e =
        let f = more i (omega arith) e in
        record { inside = omega arith; passes = f.passes; none = elim [ zero ↦ λ j. q | suc k ↦ λ j. f.none k (omega arith) ] }

record Attained (n : ℕ) (f : ℕ → ℕ) (v : ℕ) : Type 0 where
  place : ℕ
  inside : place < n
  is : f place ≡ v

least_low : (n : ℕ) (f : ℕ → ℕ) (i : ℕ) → i < n → least n f ≤ f i
unfolding least
least_low zero f i h = absurd (omega arith)
least_low (suc zero) f zero h = omega arith
least_low (suc zero) f (suc i) h = absurd (omega arith)
least_low (suc (suc n)) f zero h = omega arith
least_low (suc (suc n)) f (suc i) h = omega (arith, least_low (suc n) (λ i. f (suc i)) i (omega arith))

greatest_high : (n : ℕ) (f : ℕ → ℕ) (i : ℕ) → i < n → f i ≤ greatest n f
unfolding greatest
greatest_high zero f i h = absurd (omega arith)
greatest_high (suc n) f zero h = omega arith
greatest_high (suc n) f (suc i) h = omega (arith, greatest_high n (λ i. f (suc i)) i (omega arith))

-- v is f 0 or the value r of a later place, by a test
pick : (n : ℕ) (f : ℕ → ℕ) (v r : ℕ) → Attained n (λ i. f (suc i)) r → (b : Bool) → (b ≡ true → f 0 ≡ v) → (b ≡ false → r ≡ v) → Attained (suc n) f v
pick n f v r a true p q = record { place = 0; inside = omega arith; is = p refl }
pick n f v r a false p q = record { place = suc a.place; inside = omega arith; is = a.is ∙ q refl }

least_met : (n : ℕ) (f : ℕ → ℕ) → Attained (suc n) f (least (suc n) f)
unfolding least
least_met zero f = record { place = 0; inside = omega arith; is = refl }
least_met (suc n) f =
    let r = least (suc n) (λ i. f (suc i)) in
    pick (suc n) f (min (f 0) r) r (least_met n (λ i. f (suc i))) (leb (f 0) r) (λ e. omega (arith, leb-true (f 0) r e)) (λ e. omega (arith, leb-false (f 0) r e))

greatest_met : (n : ℕ) (f : ℕ → ℕ) → Attained (suc n) f (greatest (suc n) f)
unfolding greatest
greatest_met zero f = record { place = 0; inside = omega arith; is = omega arith }
greatest_met (suc n) f =
    let r = greatest (suc n) (λ i. f (suc i)) in
    pick (suc n) f (max (f 0) r) r (greatest_met n (λ i. f (suc i))) (leb r (f 0)) (λ e. omega (arith, leb-true r (f 0) e)) (λ e. omega (arith, leb-false r (f 0) e))

first-least : (n : ℕ) (f : ℕ → ℕ) → 1 ≤ n → FirstLeast n f (first n (λ j. eqb (f j) (least n f)))
first-least zero f h = absurd (omega arith)
first-least (suc n) f h =
    let v = least (suc n) f in
    let a = least_met n f in
    let p = first_is (suc n) (λ j. eqb (f j) v) a.place a.inside (eq-eqb (f a.place) v a.is) in
    let e = eqb-true (f (first (suc n) (λ j. eqb (f j) v))) v p.passes in
    record {
      inside = p.inside;
      least = λ k j. omega (arith, least_low (suc n) f k j);
      earliest = λ k j. lt_of_ne (f k) v (least_low (suc n) f k (omega (arith, p.inside))) (eqb-false (f k) v (p.none k j)) e;
    }
  where
    lt_of_ne : (x v : ℕ) {u : ℕ} → v ≤ x → (x ≡ v → ⊥) → u ≡ v → u < x
    lt_of_ne x v h n e = omega arith

first-greatest : (n : ℕ) (f : ℕ → ℕ) → 1 ≤ n → FirstGreatest n f (first n (λ j. eqb (f j) (greatest n f)))
first-greatest zero f h = absurd (omega arith)
first-greatest (suc n) f h =
    let v = greatest (suc n) f in
    let a = greatest_met n f in
    let p = first_is (suc n) (λ j. eqb (f j) v) a.place a.inside (eq-eqb (f a.place) v a.is) in
    let e = eqb-true (f (first (suc n) (λ j. eqb (f j) v))) v p.passes in
    record {
      inside = p.inside;
      greatest = λ k j. omega (arith, greatest_high (suc n) f k j);
      earliest = λ k j. lt_of_ne (f k) v (greatest_high (suc n) f k (omega (arith, p.inside))) (eqb-false (f k) v (p.none k j)) e;
    }
  where
    lt_of_ne : (x v : ℕ) {u : ℕ} → x ≤ v → (x ≡ v → ⊥) → u ≡ v → x < u
    lt_of_ne x v h n e = omega arith

-- ---- how many are left
-- the choices of a fold
pub lightest-first : (gs : List (List ℤ)) → 1 ≤ length gs → FirstLeast (length gs) (weights gs) (lightest gs)
unfolding lightest
lightest-first gs h = first-least (length gs) (weights gs) h

pub longest-first : (g : List ℤ) → FirstGreatest 4 (size g) (longest g)
longest-first g = first-greatest 4 (size g) (omega arith)

pub folded-length : (z : Shape) → 1 ≤ length z.generators → suc (length (folded (lightest z.generators) z).generators) ≡ length z.generators
unfolding folded
folded-length z h = omega (arith, length-remove z.generators (lightest z.generators) (lightest-first z.generators h).inside)

-- there is one first of the least, and one first of the greatest
pub first-least-one : (n : ℕ) (f : ℕ → ℕ) (p q : ℕ) → FirstLeast n f p → FirstLeast n f q → p ≡ q
first-least-one n f p q a b =
    ⊎_elim (λ e. e) (⊎_elim (λ (h : p < q). absurd (omega (arith, b.earliest p h, a.least q b.inside))) (λ (h : q < p). absurd (omega (arith, a.earliest q h, b.least p a.inside))))
    (cases_order p q)

pub first-greatest-one : (n : ℕ) (f : ℕ → ℕ) (p q : ℕ) → FirstGreatest n f p → FirstGreatest n f q → p ≡ q
first-greatest-one n f p q a b =
    ⊎_elim (λ e. e) (⊎_elim (λ (h : p < q). absurd (omega (arith, b.earliest p h, a.greatest q b.inside))) (λ (h : q < p). absurd (omega (arith, a.earliest q h, b.greatest p a.inside))))
    (cases_order p q)

-- the greatest number stands at its first place
pub greatest_at : (n : ℕ) (f : ℕ → ℕ) (p : ℕ) → FirstGreatest n f p → greatest n f ≡ f p
greatest_at zero f p h = absurd (omega (arith, h.inside))
greatest_at (suc n) f p h =
    let a = greatest_met n f in
    omega (arith, a.is, h.greatest a.place a.inside, greatest_high (suc n) f p h.inside)

-- the weight from the four sizes and the one that stands at the first greatest
pub weighed : (g : List ℤ) (p : ℕ) {a b c d e : ℕ} → FirstGreatest 4 (size g) p → a ≡ size g 0 → b ≡ size g 1 → c ≡ size g 2 → d ≡ size g 3 → e ≡ size g p
    → (e ≤ a + b + (c + d)) × (a + b + (c + d) - e ≡ weight g)
weighed g p h ea eb ec ed ee =
    let t = total-four (size g) in
    let m = greatest_at 4 (size g) p h in
    let s = by4 (λ i. size g i ≤ size g 0 + size g 1 + size g 2 + size g 3) (omega arith) (omega arith) (omega arith) (omega arith) p h.inside in
    (omega arith, omega arith)
