-- A field is read as a number exactly where it is that number's numeral.
use Rattle.std.proofs.Common.{◌≡◌, ℕ, ◌+◌, ◌-◌, ◌*◌, ◌≤◌, Bool, true, false, cond, ◌&&◌, ◌||◌, eqb, ltb, List, [], ◌∷◌, length, ℤ, pos, neg_ℤ, ◌≤ℤ◌, Ok, Err, Result, sym, refl, ap, ◌∙◌, inl, inr, ⊎_elim, arith}
use lib.Signed.{lt_z}
use Rattle.std.proofs.lemmas.Int.{ints}
use Rattle.std.proofs.lemmas.Bool.{cond-true, cond-false, and_parts, and_from, or_from, ltb-true, lt-ltb, eqb-true}
use Rattle.std.proofs.lemmas.Bool.Decides.{nat_tests}
use Rattle.plan.specs.declared.faults.NumberFault.{NumberFault}
use Rattle.plan.specs.Numbers.{fault_at, is_digit, is_lead, more, lead, signed, after_zero, number_of}
use Rattle.plan.specs.Fields.{ranged, in_range}
use Rattle.plan.specs.Spelling.{all_digits, value, Magnitude, Numeral}

-- ---- the digits that follow
more_sound : (f v left at : ℕ) (bs : List ℕ) (n : ℕ) → more f v left at bs ≡ Ok n → (all_digits bs ≡ true) × (length bs ≤ left) × (value v bs ≡ n)
more_sound f v left at [] n e = let q : v ≡ n = cc in (refl, omega arith, q)
more_sound f v left at (b ∷ bs) n e = go (ltb 0 left && is_digit b) refl e (more_sound f (v * 10 + (b - 48)) (left - 1) (at + 1) bs n)
  where
    go : (t : Bool) → (ltb 0 left && is_digit b) ≡ t → cond {A = Result ℕ NumberFault} t (more f (v * 10 + (b - 48)) (left - 1) (at + 1) bs) (Err (fault_at f at)) ≡ Ok n
        → (more f (v * 10 + (b - 48)) (left - 1) (at + 1) bs ≡ Ok n → (all_digits bs ≡ true) × (length bs ≤ left - 1) × (value (v * 10 + (b - 48)) bs ≡ n))
        → (all_digits (b ∷ bs) ≡ true) × (length (b ∷ bs) ≤ left) × (value v (b ∷ bs) ≡ n)
    go true t e rec =
        let p = and_parts (ltb 0 left) (is_digit b) t in
        let r = rec e in
        (and_from (is_digit b) (all_digits bs) p.1 r.0, omega (arith, ltb-true 0 left p.0, r.1), r.2)
    go false t e rec = let z : ◌≡◌ {A = ℕ} 0 1 = cc in absurd (omega arith)

more_full : (f v left at : ℕ) (bs : List ℕ) → all_digits bs ≡ true → length bs ≤ left → more f v left at bs ≡ Ok (value v bs)
more_full f v left at [] d h = refl
more_full f v left at (b ∷ bs) d h =
    let p = and_parts (is_digit b) (all_digits bs) d in
    cond-true (ltb 0 left && is_digit b) _ _ (and_from (ltb 0 left) (is_digit b) (lt-ltb 0 left (omega arith)) p.0)
    ∙ more_full f (v * 10 + (b - 48)) (left - 1) (at + 1) bs p.1 (omega arith)

lead_digit : (b : ℕ) → is_lead b ≡ true → is_digit b ≡ true
lead_digit b h = grind (arith, nat_tests)

from_nought : (b : ℕ) → 0 * 10 + (b - 48) ≡ b - 48
from_nought b = omega arith

lead_sound : (f at : ℕ) (ds : List ℕ) (n : ℕ) → lead f at ds ≡ Ok n → Magnitude ds n
lead_sound f at [] n e = let z : ◌≡◌ {A = ℕ} 0 1 = cc in absurd (omega arith)
lead_sound f at (b ∷ bs) n e = go (is_lead b) refl e
  where
    go : (t : Bool) → is_lead b ≡ t → cond {A = Result ℕ NumberFault} t (more f (b - 48) 15 (at + 1) bs) (Err (fault_at f at)) ≡ Ok n → Magnitude (b ∷ bs) n
    go true t e =
        let m = more_sound f (b - 48) 15 (at + 1) bs n e in
        record { leads = t; digits = and_from (is_digit b) (all_digits bs) (lead_digit b t) m.0; short = omega (arith, m.1); worth = ap (λ v. value v bs) (from_nought b) ∙ m.2 }
    go false t e = let z : ◌≡◌ {A = ℕ} 0 1 = cc in absurd (omega arith)

lead_full : (f at : ℕ) (ds : List ℕ) (n : ℕ) → Magnitude ds n → lead f at ds ≡ Ok n
lead_full f at [] n m = let e : is_lead 0 ≡ true = m.leads in let z : ◌≡◌ {A = ℕ} 0 1 = cc in absurd (omega arith)
lead_full f at (b ∷ bs) n m =
    let h : length (b ∷ bs) ≤ 16 = m.short in
    cond-true (is_lead b) _ _ m.leads
    ∙ more_full f (b - 48) 15 (at + 1) bs (and_parts (is_digit b) (all_digits bs) m.digits).1 (omega arith)
    ∙ ap Ok (sym (ap (λ v. value v bs) (from_nought b)) ∙ m.worth)

-- ---- the number
signed_sound : (g : ℕ → ℤ) (r : Result ℕ NumberFault) (z : ℤ) → signed g r ≡ Ok z → (n : ℕ) × (r ≡ Ok n) × (z ≡ g n)
signed_sound g (Ok n) z e = let q : g n ≡ z = cc in (n, refl, sym q)
signed_sound g (Err y) z e = let q : ◌≡◌ {A = ℕ} 0 1 = cc in absurd (omega arith)

after_sound : (f : ℕ) (bs : List ℕ) (z : ℤ) → after_zero f bs ≡ Ok z → (bs ≡ []) × (z ≡ pos 0)
after_sound f [] z e = let q : pos 0 ≡ z = cc in (refl, sym q)
after_sound f (b ∷ bs) z e = let q : ◌≡◌ {A = ℕ} 0 1 = cc in absurd (omega arith)

pub number_sound : (f : ℕ) (text : List ℕ) (z : ℤ) → number_of f text ≡ Ok z → Numeral text z
number_sound f [] z e = let q : ◌≡◌ {A = ℕ} 0 1 = cc in absurd (omega arith)
number_sound f (b ∷ bs) z e = go (eqb b 48) refl (eqb b 45) refl e
  where
    go : (s : Bool) → eqb b 48 ≡ s → (t : Bool) → eqb b 45 ≡ t
        → cond {A = Result ℤ NumberFault} s (after_zero f bs) (cond t (signed (λ n. neg_ℤ (pos n)) (lead f 1 bs)) (signed pos (lead f 0 (b ∷ bs)))) ≡ Ok z → Numeral (b ∷ bs) z
    go true s t q e =
        let a = after_sound f bs z e in
        inl (ap (λ (c : ℕ). c ∷ bs) (eqb-true b 48 s) ∙ ap (λ (u : List ℕ). 48 ∷ u) a.0, a.1)
    go false s true t e =
        let a = signed_sound (λ n. neg_ℤ (pos n)) (lead f 1 bs) z e in
        inr (inr (bs, a.0, ap (λ (c : ℕ). c ∷ bs) (eqb-true b 45 t), lead_sound f 1 bs a.0 a.1, a.2))
    go false s false t e =
        let a = signed_sound pos (lead f 0 (b ∷ bs)) z e in
        inr (inl (a.0, lead_sound f 0 (b ∷ bs) a.0 a.1, a.2))

lead_not : (b : ℕ) → is_lead b ≡ true → (eqb b 48 ≡ false) × (eqb b 45 ≡ false)
lead_not b h = (grind (arith, nat_tests), grind (arith, nat_tests))

plain_full : (f : ℕ) (text : List ℕ) (n : ℕ) → Magnitude text n → number_of f text ≡ Ok (pos n)
plain_full f [] n m = let e : is_lead 0 ≡ true = m.leads in let z : ◌≡◌ {A = ℕ} 0 1 = cc in absurd (omega arith)
plain_full f (b ∷ bs) n m =
    let k = lead_not b m.leads in
    cond-false (eqb b 48) _ _ k.0 ∙ cond-false (eqb b 45) _ _ k.1 ∙ ap (signed pos) (lead_full f 0 (b ∷ bs) n m)

pub number_full : (f : ℕ) (text : List ℕ) (z : ℤ) → Numeral text z → number_of f text ≡ Ok z
number_full f text z s =
    ⊎_elim (λ (p : (text ≡ 48 ∷ []) × (z ≡ pos 0)). ap (number_of f) p.0 ∙ ap Ok (sym p.1))
    (⊎_elim (λ (p : (n : ℕ) × Magnitude text n × (z ≡ pos n)). plain_full f text p.0 p.1 ∙ ap Ok (sym p.2))
    (λ (p : (ds : List ℕ) × (n : ℕ) × (text ≡ 45 ∷ ds) × Magnitude ds n × (z ≡ neg_ℤ (pos n))).
    ap (number_of f) p.2 ∙ ap (signed (λ n. neg_ℤ (pos n))) (lead_full f 1 p.0 p.1 p.3) ∙ ap Ok (sym p.4)))
    s

low_test : (z least : ℤ) → least ≤ℤ z → lt_z z least ≡ false
low_test z least h = grind (arith, ints)

high_test : (z most : ℤ) → z ≤ℤ most → lt_z most z ≡ false
high_test z most h = grind (arith, ints)

pub ranged_full : (f : ℕ) (least most : ℤ) (text : List ℕ) (z : ℤ) → Numeral text z → least ≤ℤ z → z ≤ℤ most → ranged f least most text ≡ Ok z
ranged_full f least most text z s h k =
    ap (in_range f least most) (number_full f text z s) ∙ cond-false (lt_z z least || lt_z most z) _ _ (or_from (lt_z z least) (lt_z most z) (low_test z least h) (high_test z most k))
