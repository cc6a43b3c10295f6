-- Where no number lies outside its range, each lies inside; and the first in a list of two parts.
use Rattle.std.proofs.Common.{◌≡◌, ℕ, zero, suc, ◌+◌, ◌<◌, ◌≤◌, Bool, true, false, cond, List, [], ◌∷◌, ◌++◌, length, get_or, ℤ, pos, nat_abs, ◌≤ℤ◌, Some, None, Option, sym, refl, ap, ◌∙◌, add-zero, arith}
use Rattle.std.proofs.lemmas.Int.{ints}
use Rattle.std.proofs.lemmas.Bool.{cond-false}
use Rattle.std.proofs.lemmas.Bool.Decides.{nat_tests}
use Rattle.dynamics.specs.declared.ranges.Ranged.{Ranged}
use Rattle.dynamics.specs.Ranges.{within, up_to, outside, first_outside}
use Rattle.dynamics.proofs.Places.{nothing}

-- ---- one number
pub within_inside : (n : ℕ) (z : ℤ) → outside (within (pos n) z) ≡ false → nat_abs z ≤ n
within_inside n z h = grind (arith, ints, nat_tests)

pub inside_within : (n : ℕ) (z : ℤ) → nat_abs z ≤ n → outside (within (pos n) z) ≡ false
inside_within n z h = grind (arith, ints, nat_tests)

pub up_to_least : (n : ℕ) (z : ℤ) → outside (up_to (pos n) z) ≡ false → pos 0 ≤ℤ z
up_to_least n z h = grind (arith, ints, nat_tests)

pub up_to_most : (n : ℕ) (z : ℤ) → outside (up_to (pos n) z) ≡ false → nat_abs z ≤ n
up_to_most n z h = grind (arith, ints, nat_tests)

pub inside_up_to : (n : ℕ) (z : ℤ) → pos 0 ≤ℤ z → nat_abs z ≤ n → outside (up_to (pos n) z) ≡ false
inside_up_to n z h k = grind (arith, ints, nat_tests)

-- ---- a list
-- the first number and the others, by the test of the first
step_none : (b : Bool) (k : ℕ) (o : Option ℕ) → cond b (Some (k + 1)) o ≡ None → (b ≡ false) × (o ≡ None)
step_none true k o e = let z : ◌≡◌ {A = ℕ} 0 1 = cc in absurd (omega arith)
step_none false k o e = (refl, e)

pub inside_at : (ns : List Ranged) (k : ℕ) → first_outside k ns ≡ None → (j : ℕ) → j < length ns → outside (get_or ns j nothing) ≡ false
unfolding first_outside
inside_at [] k e j h = absurd (omega arith)
inside_at (n ∷ ns) k e zero h = (step_none (outside n) k (first_outside (k + 1) ns) e).0
inside_at (n ∷ ns) k e (suc j) h = inside_at ns (k + 1) (step_none (outside n) k (first_outside (k + 1) ns) e).1 j (omega arith)

pub none-outside : (ns : List Ranged) (k : ℕ) → ((j : ℕ) → j < length ns → outside (get_or ns j nothing) ≡ false) → first_outside k ns ≡ None
unfolding first_outside
none-outside [] k h = refl
none-outside (n ∷ ns) k h = cond-false _ _ _ (h 0 (omega arith)) ∙ none-outside ns (k + 1) (λ j l. h (suc j) (omega arith))

-- ---- two lists
pub append_bad : (xs ys : List Ranged) (k p : ℕ) → first_outside k xs ≡ Some p → first_outside k (xs ++ ys) ≡ Some p
unfolding first_outside
append_bad [] ys k p e = let z : ◌≡◌ {A = ℕ} 0 1 = cc in absurd (omega arith)
append_bad (x ∷ xs) ys k p e = go (outside x) e (append_bad xs ys (k + 1) p)
  where
    go : (b : Bool) → cond b (Some (k + 1)) (first_outside (k + 1) xs) ≡ Some p → (first_outside (k + 1) xs ≡ Some p → first_outside (k + 1) (xs ++ ys) ≡ Some p)
        → cond b (Some (k + 1)) (first_outside (k + 1) (xs ++ ys)) ≡ Some p
    go true e more = e
    go false e more = more e

pub append_good : (xs ys : List Ranged) (k : ℕ) → first_outside k xs ≡ None → first_outside k (xs ++ ys) ≡ first_outside (k + length xs) ys
unfolding first_outside
append_good [] ys k e = ap (λ n. first_outside n ys) (sym (add-zero k))
append_good (x ∷ xs) ys k e =
    let t = step_none (outside x) k (first_outside (k + 1) xs) e in
    let n : k + 1 + length xs ≡ k + suc (length xs) = omega arith in
    cond-false _ _ _ t.0 ∙ append_good xs ys (k + 1) t.1 ∙ ap (λ n. first_outside n ys) n

pub append-none : (xs ys : List Ranged) (k : ℕ) → first_outside k (xs ++ ys) ≡ None → first_outside k xs ≡ None
unfolding first_outside
append-none [] ys k e = refl
append-none (x ∷ xs) ys k e =
    let t = step_none (outside x) k (first_outside (k + 1) (xs ++ ys)) e in
    cond-false _ _ _ t.0 ∙ append-none xs ys (k + 1) t.1
