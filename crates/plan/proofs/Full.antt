-- Every text that spells a plan is read as that plan.
use Rattle.std.proofs.Common.{◌≡◌, ℕ, zero, suc, ◌+◌, ◌^◌, ◌<◌, ◌≤◌, true, List, [], ◌∷◌, ◌++◌, length, get_or, ℤ, pos, neg_ℤ, nat_abs, ◌≤ℤ◌, Ok, Result, refl, ap, ◌∙◌, ap₂, arith}
use Rattle.std.proofs.lemmas.Int.{ints}
use Rattle.std.proofs.lemmas.Bool.{cond-true, cond-false, le-ltb}
use Rattle.arith.specs.Sums.{part}
use Rattle.dynamics.specs.Limits.{DirectionLimits}
use Rattle.dynamics.specs.Ranges.{too_large}
use Rattle.plan.specs.declared.faults.LineFault.{LineFault}
use Rattle.plan.specs.declared.record.Expected.{Expected}
use Rattle.plan.specs.Fields.{within_field, up_to_field, index_of, entries_of, is_label, label_of}
use Rattle.plan.specs.Grammar.{line, word}
use Rattle.plan.specs.Keeps.{Kept}
use Rattle.plan.specs.Readings.{bind, placed, line_by}
use Rattle.plan.specs.Records.{Fielded, kind_of, width, record_of}
use Rattle.plan.specs.Spelling.{Numeral, Item, number, Spelt, Fields, Entry, numbers4, row_entry, keep_entry, steps_entry, KeptSound}
use Rattle.plan.specs.Values.{in_line, together, pair_of, row_from, gust_from, start_from, keep_from, steps_from}
use Rattle.plan.proofs.Numerals.{ranged_full}
use Rattle.plan.proofs.Seams.{fields_clean, fields_length, line_again}

pub bind_at : {A B E : Type 0} (r : Result A E) (k : A → Result B E) (x : A) → r ≡ Ok x → bind r k ≡ k x
bind_at r k x e = ap (λ r. bind r k) e

pub four_is : (v : List ℤ) → length v ≡ 4 → part v 0 ∷ part v 1 ∷ part v 2 ∷ part v 3 ∷ [] ≡ v
four_is [] h = absurd (omega arith)
four_is (a ∷ []) h = absurd (omega arith)
four_is (a ∷ (b ∷ [])) h = absurd (omega arith)
four_is (a ∷ (b ∷ (c ∷ []))) h = absurd (omega arith)
four_is (a ∷ (b ∷ (c ∷ (d ∷ [])))) h = refl
four_is (a ∷ (b ∷ (c ∷ (d ∷ (e ∷ es))))) h = absurd (omega arith)

pub two_is : (v : List ℤ) → length v ≡ 2 → part v 0 ∷ part v 1 ∷ [] ≡ v
two_is [] h = absurd (omega arith)
two_is (a ∷ []) h = absurd (omega arith)
two_is (a ∷ (b ∷ [])) h = refl
two_is (a ∷ (b ∷ (c ∷ cs))) h = absurd (omega arith)

pub rows_is : (a : List (List ℤ)) → length a ≡ 4 → get_or a 0 [] ∷ get_or a 1 [] ∷ get_or a 2 [] ∷ get_or a 3 [] ∷ [] ≡ a
rows_is [] h = absurd (omega arith)
rows_is (a ∷ []) h = absurd (omega arith)
rows_is (a ∷ (b ∷ [])) h = absurd (omega arith)
rows_is (a ∷ (b ∷ (c ∷ []))) h = absurd (omega arith)
rows_is (a ∷ (b ∷ (c ∷ (d ∷ [])))) h = refl
rows_is (a ∷ (b ∷ (c ∷ (d ∷ (e ∷ es))))) h = absurd (omega arith)

-- ---- fields
field_at : (fs : List (List ℕ)) (is : List Item) → Fields fs is → (k : ℕ) → k < length is → Spelt (get_or fs k []) (get_or is k (number (pos 0)))
field_at [] [] s k h = absurd (omega arith)
field_at [] (i ∷ is) s k h = absurd s
field_at (f ∷ fs) [] s k h = absurd s
field_at (f ∷ fs) (i ∷ is) s zero h = s.0
field_at (f ∷ fs) (i ∷ is) s (suc k) h = field_at fs is s.1 k (omega arith)

low : (z : ℤ) (n : ℕ) → nat_abs z ≤ n → neg_ℤ (pos n) ≤ℤ z
low z n h = omega (arith, ints)

high : (z : ℤ) (n : ℕ) → nat_abs z ≤ n → z ≤ℤ pos n
high z n h = omega (arith, ints)

within_full : (f n : ℕ) (text : List ℕ) (z : ℤ) → Numeral text z → nat_abs z ≤ n → within_field f n text ≡ Ok z
within_full f n text z s h = ranged_full f (neg_ℤ (pos n)) (pos n) text z s (low z n h) (high z n h)

up_to_full : (f n : ℕ) (text : List ℕ) (z : ℤ) → Numeral text z → pos 0 ≤ℤ z → nat_abs z ≤ n → up_to_field f n text ≡ Ok z
up_to_full f n text z s h k = ranged_full f (pos 0) (pos n) text z s h (high z n k)

same_low : (i : ℕ) → pos i ≤ℤ pos i
same_low i = omega (arith, ints)

index_full : (i : ℕ) (text : List ℕ) → Numeral text (pos i) → index_of i text ≡ Ok (pos i)
index_full i text s = ranged_full 2 (pos i) (pos i) text (pos i) s (same_low i) (same_low i)

entries_full : (a b c d : List ℕ) (v : List ℤ) → length v ≡ 4 → DirectionLimits v → Numeral a (part v 0) → Numeral b (part v 1) → Numeral c (part v 2) → Numeral d (part v 3) → entries_of a b c d ≡ Ok v
entries_full a b c d v l h p q s t =
    bind_at _ _ (part v 0) (within_full 3 (2 ^ 20) a (part v 0) p (h 0 (omega arith)))
    ∙ bind_at _ _ (part v 1) (within_full 4 (2 ^ 20) b (part v 1) q (h 1 (omega arith)))
    ∙ bind_at _ _ (part v 2) (within_full 5 (2 ^ 20) c (part v 2) s (h 2 (omega arith)))
    ∙ bind_at _ _ (part v 3) (within_full 6 (2 ^ 20) d (part v 3) t (h 3 (omega arith)))
    ∙ ap Ok (four_is v l)

pair_full : (f n : ℕ) (x y : List ℕ) (p w : ℤ) → Numeral x p → Numeral y w → pos 0 ≤ℤ w → nat_abs p + nat_abs w ≤ n → pair_of f n x y ≡ Ok (p, w)
pair_full f n x y p w s t h k =
    ap₂ (together f n) (within_full f n x p s (omega arith)) (up_to_full (f + 1) n y w t h (omega arith)) ∙ cond-false (too_large n p w) _ _ (le-ltb _ _ k)

-- ---- records
pub row_full : (i : ℕ) (fs : List (List ℕ)) (v : List ℤ) → Fields fs (row_entry i v).1 → length v ≡ 4 → DirectionLimits v → row_from i fs ≡ Ok v
row_full i fs v s l h =
    let at = field_at fs (row_entry i v).1 s in
    bind_at _ _ (pos i) (ap in_line (index_full i (get_or fs 0 []) (at 0 (omega arith))))
    ∙ ap in_line (entries_full (get_or fs 1 []) (get_or fs 2 []) (get_or fs 3 []) (get_or fs 4 []) v l h (at 1 (omega arith)) (at 2 (omega arith)) (at 3 (omega arith)) (at 4 (omega arith)))

pub gust_full : (j : ℕ) (fs : List (List ℕ)) (g : List ℤ) (m r : ℤ) → Fields fs (number (pos j) ∷ numbers4 g (number m ∷ number r ∷ [])) → length g ≡ 4 → DirectionLimits g → pos 0 ≤ℤ r → nat_abs m + nat_abs r ≤ 2 ^ 24
    → gust_from j fs ≡ Ok (record { gains = g; centre = m; radius = r })
gust_full j fs g m r s l h w k =
    let at = field_at fs (number (pos j) ∷ numbers4 g (number m ∷ number r ∷ [])) s in
    bind_at _ _ (pos j) (ap in_line (index_full j (get_or fs 0 []) (at 0 (omega arith))))
    ∙ bind_at _ _ g (ap in_line (entries_full (get_or fs 1 []) (get_or fs 2 []) (get_or fs 3 []) (get_or fs 4 []) g l h (at 1 (omega arith)) (at 2 (omega arith)) (at 3 (omega arith)) (at 4 (omega arith))))
    ∙ bind_at _ _ (m, r) (pair_full 7 (2 ^ 24) (get_or fs 5 []) (get_or fs 6 []) m r (at 5 (omega arith)) (at 6 (omega arith)) w k)

pub start_full : (i : ℕ) (fs : List (List ℕ)) (p w : ℤ) → Fields fs (number (pos i) ∷ number p ∷ number w ∷ []) → pos 0 ≤ℤ w → nat_abs p + nat_abs w ≤ 2 ^ 30 → start_from i fs ≡ Ok (p, w)
start_full i fs p w s h k =
    let at = field_at fs (number (pos i) ∷ number p ∷ number w ∷ []) s in
    bind_at _ _ (pos i) (ap in_line (index_full i (get_or fs 0 []) (at 0 (omega arith)))) ∙ pair_full 3 (2 ^ 30) (get_or fs 1 []) (get_or fs 2 []) p w (at 1 (omega arith)) (at 2 (omega arith)) h k

label_full : (f l : List ℕ) → (f ≡ l) × (is_label l ≡ true) → label_of f ≡ Ok l
label_full f l s = ap label_of s.0 ∙ cond-true (is_label l) _ _ s.1

pub keep_full : (fs : List (List ℕ)) (k : Kept) → Fields fs (keep_entry k).1 → KeptSound k → keep_from fs ≡ Ok k
keep_full fs k s h =
    let at = field_at fs (keep_entry k).1 s in
    bind_at _ _ k.label (ap in_line (label_full (get_or fs 0 []) k.label (at 0 (omega arith))))
    ∙ bind_at _ _ (k.entries, k.threshold)
    (bind_at _ _ k.entries (ap in_line (entries_full (get_or fs 1 []) (get_or fs 2 []) (get_or fs 3 []) (get_or fs 4 []) k.entries h.0 h.1 (at 1 (omega arith)) (at 2 (omega arith)) (at 3 (omega arith)) (at 4 (omega arith))))
    ∙ bind_at _ _ k.threshold (ap in_line (within_full 7 (2 ^ 52) (get_or fs 5 []) k.threshold (at 5 (omega arith)) h.2)))

pub steps_full : (fs : List (List ℕ)) (n : ℕ) → Fields fs (steps_entry n).1 → n ≤ 256 → steps_from fs ≡ Ok n
steps_full fs n s h =
    let at = field_at fs (steps_entry n).1 s in
    ap in_line (bind_at _ _ (pos n) (up_to_full 2 256 (get_or fs 0 []) (pos n) (at 0 (omega arith)) (omega (arith, ints)) (omega arith)))

-- ---- lines
-- the first line of some records, read by the record that it is to be
pub line_full : {A : Type 0} (x : Expected) (g : Fielded → Result A LineFault) (e : Entry) (fs : List (List ℕ)) (rest t : List ℕ) (n : ℕ) (v : A)
    → t ≡ line (word e.0 ∷ fs) ++ rest → Fields fs e.1 → kind_of x (word e.0) ≡ Ok e.0 → length e.1 ≡ width e.0 → g (e.0, fs) ≡ Ok v
    → line_by (λ l. bind (record_of x l) g) n t ≡ Ok (v, n + 1, rest)
line_full {A} x g e fs rest t n v q s k w r =
    ap (line_by (λ l. bind (record_of x l) g) n) q ∙ line_again x e.0 g fs n rest (fields_clean fs e.1 s) k (fields_length fs e.1 s ∙ w) ∙ ap (placed (n + 1) rest) r
