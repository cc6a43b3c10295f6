-- A line put together of clean fields is cut into those fields again.
use Rattle.std.proofs.Common.{◌≡◌, ℕ, ◌+◌, ◌<◌, Bool, true, false, ◌&&◌, eqb, leb, List, [], ◌∷◌, ◌++◌, length, ℤ, pos, neg_ℤ, Some, Ok, Result, refl, ap, ◌∙◌, ⊎_elim, arith}
use Rattle.std.proofs.lemmas.List.{append_assoc, append-nil}
use Rattle.std.proofs.lemmas.Bool.{cond-true, cond-false, and_parts, and_from, eq-eqb}
use Rattle.std.proofs.lemmas.Bool.Decides.{nat_tests}
use Rattle.plan.specs.declared.faults.LineFault.{LineFault}
use Rattle.plan.specs.declared.record.Kind.{Kind}
use Rattle.plan.specs.declared.record.Kind.TheVariants as kinds
use Rattle.plan.specs.declared.record.Expected.{Expected}
use Rattle.plan.specs.Cuts.{line_of, longer_line, fields_of, longer_field}
use Rattle.std.specs.Char.{is_ascii_alphanumeric}
use Rattle.plan.specs.Fields.{all_plain, is_label}
use Rattle.plan.specs.Grammar.{tabs, tabbed, line, word}
use Rattle.plan.specs.Numbers.{is_digit}
use Rattle.plan.specs.Readings.{bind, then, found, placed, line_by}
use Rattle.plan.specs.Records.{Fielded, kind_of, width, counted, named, record_of}
use Rattle.plan.specs.Spelling.{all_digits, Magnitude, Numeral, Item, number, label, Spelt, Fields}

-- no byte below 32, so neither a tab nor a line end
abbrev pub clean : List ℕ → Bool
clean [] = true
clean (b ∷ bs) = leb 32 b && clean bs

abbrev pub all_clean : List (List ℕ) → Bool
all_clean [] = true
all_clean (f ∷ fs) = clean f && all_clean fs

not_cut : (b s : ℕ) → leb 32 b ≡ true → s < 32 → eqb b s ≡ false
not_cut b s h k = grind (arith, nat_tests)

-- ---- what is spelt is clean
digit_clean : (b : ℕ) → is_digit b ≡ true → leb 32 b ≡ true
digit_clean b h = grind (arith, nat_tests)

plain_clean : (b : ℕ) → is_ascii_alphanumeric b ≡ true → leb 32 b ≡ true
plain_clean b h = grind (arith, nat_tests)

digits_clean : (ds : List ℕ) → all_digits ds ≡ true → clean ds ≡ true
digits_clean [] h = refl
digits_clean (b ∷ bs) h = let p = and_parts (is_digit b) (all_digits bs) h in and_from (leb 32 b) (clean bs) (digit_clean b p.0) (digits_clean bs p.1)

plains_clean : (bs : List ℕ) → all_plain bs ≡ true → clean bs ≡ true
plains_clean [] h = refl
plains_clean (b ∷ bs) h = let p = and_parts (is_ascii_alphanumeric b) (all_plain bs) h in and_from (leb 32 b) (clean bs) (plain_clean b p.0) (plains_clean bs p.1)

numeral_clean : (f : List ℕ) (z : ℤ) → Numeral f z → clean f ≡ true
numeral_clean f z s =
    ⊎_elim (λ (p : (f ≡ 48 ∷ []) × (z ≡ pos 0)). ap clean p.0)
    (⊎_elim (λ (p : (n : ℕ) × Magnitude f n × (z ≡ pos n)). digits_clean f p.1.digits)
    (λ (p : (ds : List ℕ) × (n : ℕ) × (f ≡ 45 ∷ ds) × Magnitude ds n × (z ≡ neg_ℤ (pos n))). ap clean p.2 ∙ digits_clean p.0 p.3.digits))
    s

label_plain : (l : List ℕ) → is_label l ≡ true → all_plain l ≡ true
label_plain l h =
    let p = and_parts (leb 1 (length l)) (leb (length l) 12 && all_plain l) h in
    (and_parts (leb (length l) 12) (all_plain l) p.1).1

spelt_clean : (f : List ℕ) (i : Item) → Spelt f i → clean f ≡ true
spelt_clean f (number z) s = numeral_clean f z s
spelt_clean f (label l) s = ap clean s.0 ∙ plains_clean l (label_plain l s.1)

pub fields_clean : (fs : List (List ℕ)) (is : List Item) → Fields fs is → all_clean fs ≡ true
fields_clean [] [] s = refl
fields_clean [] (i ∷ is) s = absurd s
fields_clean (f ∷ fs) [] s = absurd s
fields_clean (f ∷ fs) (i ∷ is) s = and_from (clean f) (all_clean fs) (spelt_clean f i s.0) (fields_clean fs is s.1)

pub fields_length : (fs : List (List ℕ)) (is : List Item) → Fields fs is → length fs ≡ length is
fields_length [] [] s = refl
fields_length [] (i ∷ is) s = absurd s
fields_length (f ∷ fs) [] s = absurd s
fields_length (f ∷ fs) (i ∷ is) s = let e = fields_length fs is s.1 in omega arith

-- ---- lines
line_past : (f u l r : List ℕ) → clean f ≡ true → line_of u ≡ Some (l, r) → line_of (f ++ u) ≡ Some (f ++ l, r)
line_past [] u l r h e = e
line_past (b ∷ bs) u l r h e =
    let p = and_parts (leb 32 b) (clean bs) h in
    cond-false (eqb b 10) _ _ (not_cut b 10 p.0 (omega arith)) ∙ ap (longer_line b) (line_past bs u l r p.1 e)

tabs-line : (fs : List (List ℕ)) (t : List ℕ) → all_clean fs ≡ true → line_of (tabs fs ++ (10 ∷ t)) ≡ Some (tabs fs, t)
tabs-line [] t h = refl
tabs-line (f ∷ fs) t h =
    let p = and_parts (clean f) (all_clean fs) h in
    ap (λ (u : List ℕ). longer_line 9 (line_of u)) (append_assoc f (tabs fs) (10 ∷ t)) ∙ ap (longer_line 9) (line_past f (tabs fs ++ (10 ∷ t)) (tabs fs) t p.0 (tabs-line fs t p.1))

cut_again : (w : List ℕ) (fs : List (List ℕ)) (t : List ℕ) → clean w ≡ true → all_clean fs ≡ true → line_of (line (w ∷ fs) ++ t) ≡ Some (tabbed (w ∷ fs), t)
cut_again w fs t h k =
    ap line_of (append_assoc (w ++ tabs fs) (10 ∷ []) t ∙ append_assoc w (tabs fs) (10 ∷ t)) ∙ line_past w (tabs fs ++ (10 ∷ t)) (tabs fs) t h (tabs-line fs t k)

-- ---- fields
field_past : (f u g : List ℕ) (gs : List (List ℕ)) → clean f ≡ true → fields_of u ≡ g ∷ gs → fields_of (f ++ u) ≡ (f ++ g) ∷ gs
field_past [] u g gs h e = e
field_past (b ∷ bs) u g gs h e =
    let p = and_parts (leb 32 b) (clean bs) h in
    cond-false (eqb b 9) _ _ (not_cut b 9 p.0 (omega arith)) ∙ ap (longer_field b) (field_past bs u g gs p.1 e)

tabs_fields : (fs : List (List ℕ)) → all_clean fs ≡ true → fields_of (tabs fs) ≡ [] ∷ fs
tabs_fields [] h = refl
tabs_fields (f ∷ fs) h =
    let p = and_parts (clean f) (all_clean fs) h in
    ap (λ (gs : List (List ℕ)). [] ∷ gs) (field_past f (tabs fs) [] fs p.0 (tabs_fields fs p.1) ∙ ap (λ (g : List ℕ). g ∷ fs) (append-nil f))

fields_again : (w : List ℕ) (fs : List (List ℕ)) → clean w ≡ true → all_clean fs ≡ true → fields_of (tabbed (w ∷ fs)) ≡ w ∷ fs
fields_again w fs h k = field_past w (tabs fs) [] fs h (tabs_fields fs k) ∙ ap (λ (g : List ℕ). g ∷ fs) (append-nil w)

word-clean : (k : Kind) → clean (word k) ≡ true
word-clean kinds.Row = refl
word-clean kinds.Gust = refl
word-clean kinds.Start = refl
word-clean kinds.Keep = refl
word-clean kinds.Steps = refl

record_again : (x : Expected) (k : Kind) (fs : List (List ℕ)) → all_clean fs ≡ true → kind_of x (word k) ≡ Ok k → length fs ≡ width k → record_of x (tabbed (word k ∷ fs)) ≡ Ok (k, fs)
record_again x k fs h e l =
    ap (named x) (fields_again (word k) fs (word-clean k) h) ∙ ap (λ r. bind r (counted fs)) e ∙ cond-true (eqb (length fs) (width k)) _ _ (eq-eqb _ _ l)

-- a line of a record is read by that record's fields
pub line_again : {A : Type 0} (x : Expected) (k : Kind) (g : Fielded → Result A LineFault) (fs : List (List ℕ)) (n : ℕ) (t : List ℕ)
    → all_clean fs ≡ true → kind_of x (word k) ≡ Ok k → length fs ≡ width k
    → line_by (λ l. bind (record_of x l) g) n (line (word k ∷ fs) ++ t) ≡ placed (n + 1) t (g (k, fs))
line_again {A} x k g fs n t h e l =
    ap (λ o. then (found (n + 1) o) (λ line n t. placed n t (bind (record_of x line) g))) (cut_again (word k) fs t (word-clean k) h)
    ∙ ap (λ (r : Result Fielded LineFault). placed (n + 1) t (bind r g)) (record_again x k fs h e l)
