-- The written text of a plan spells that plan.
use Rattle.std.proofs.Common.{◌≡◌, ℕ, zero, suc, ◌+◌, ◌*◌, ◌^◌, ◌<◌, ◌≤◌, true, ◌&&◌, leb, List, [], ◌∷◌, ◌++◌, map, length, get_or, ℤ, pos, negsuc, nat_abs, Ok, decimal, refl, inl, inr, arith, rules}
use Rattle.std.proofs.lemmas.Fmt.{decimal_digit, digits_decimal, digits_value-decimal, first_decimal, length-decimal-le}
use Rattle.std.proofs.lemmas.List.{length-append}
use Rattle.std.proofs.lemmas.Str.Parse.{IsNumeralModel, numerals_by_fold}
use Rattle.std.proofs.lemmas.Bool.{and_parts, leb-true}
use Rattle.std.proofs.lemmas.Bool.Decides.{nat_tests}
use Rattle.std.specs.Fmt.{signed_decimal}
use Rattle.arith.specs.Sums.{part}
use Rattle.dynamics.specs.Limits.{DirectionLimits, MatrixLimits, GustLimits}
use Rattle.plan.specs.declared.record.Kind.{Kind}
use Rattle.plan.specs.declared.record.Kind.TheVariants as kinds
use Rattle.plan.specs.Fields.{all_plain, is_label}
use Rattle.plan.specs.Grammar.{tabs, word}
use Rattle.plan.specs.Keeps.{Kept}
use Rattle.plan.specs.Numbers.{is_digit, is_lead, number_of}
use Rattle.plan.specs.Plans.{Loop, Sheet, plan_of}
use Rattle.plan.specs.Spelling.{all_digits, value, Magnitude, Numeral, Item, number, label, Spelt, Fields, Entry, Lines, numbers4, gust_entry, loop_entries, begin_entries, tail_entries, entries, AllSound, Sound, Spells, item_text, entries_text, plan_text}
use Rattle.plan.proofs.Numerals.{number_full}
use Rattle.plan.proofs.Whole.{plan_full}

-- ---- numbers
own : IsNumeralModel (λ ds. all_digits ds ≡ true) (value 0)
own = numerals_by_fold _ (search rules) value (search rules)

lead_from : (ds : List ℕ) → all_digits ds ≡ true → 48 < get_or ds 0 0 → is_lead (get_or ds 0 0) ≡ true
lead_from [] d h = absurd (omega arith)
lead_from (b ∷ bs) d h = let e = (and_parts (is_digit b) (all_digits bs) d).0 in grind (arith, nat_tests)

magnitude : (n : ℕ) → 0 < n → n < 10 ^ 16 → Magnitude (decimal n) n
magnitude n h k =
    let small : n < 2 ^ 64 = omega arith in
    let d = digits_decimal own n small in
    record { leads = lead_from (decimal n) d (first_decimal n h small); digits = d; short = length-decimal-le 16 n (omega arith) k small; worth = digits_value-decimal own n small }

pub numeral : (z : ℤ) → nat_abs z < 10 ^ 16 → Numeral (signed_decimal z) z
numeral (pos zero) h = inl (decimal_digit 0 (omega arith), refl)
numeral (pos (suc n)) h = inr (inl (suc n, magnitude (suc n) (omega arith) h, refl))
numeral (negsuc n) h = inr (inr (decimal (suc n), suc n, refl, magnitude (suc n) (omega arith) h, refl))

-- reading a written number gives it back
pub read_back : (field : ℕ) (z : ℤ) → nat_abs z < 10 ^ 16 → number_of field (signed_decimal z) ≡ Ok z
read_back field z h = number_full field (signed_decimal z) z (numeral z h)

-- ---- items
abbrev Writable : Item → Type 0
Writable (number z) = nat_abs z < 10 ^ 16
Writable (label l) = is_label l ≡ true

abbrev AllWritable : List Item → Type 0
AllWritable [] = Unit {0}
AllWritable (i ∷ is) = Writable i × AllWritable is

item_spelt : (i : Item) → Writable i → Spelt (item_text i) i
item_spelt (number z) w = numeral z w
item_spelt (label l) w = (refl, w)

digits_short : (n : ℕ) → n < 10 ^ 16 → length (decimal n) ≤ 16
digits_short n h = length-decimal-le 16 n (omega arith) h (omega arith)

item_short : (i : Item) → Writable i → length (item_text i) ≤ 17
item_short (number (pos n)) w = omega (arith, digits_short n w)
item_short (number (negsuc n)) w = omega (arith, digits_short (suc n) w)
item_short (label l) w =
    let p = and_parts (leb 1 (length l)) (leb (length l) 12 && all_plain l) w in
    omega (arith, leb-true (length l) 12 (and_parts (leb (length l) 12) (all_plain l) p.1).0)

fields_written : (is : List Item) → AllWritable is → Fields (map item_text is) is
fields_written [] w = tt
fields_written (i ∷ is) w = (item_spelt i w.0, fields_written is w.1)

tabs_short : (is : List Item) → AllWritable is → length (tabs (map item_text is)) ≤ 18 * length is
tabs_short [] w = omega arith
tabs_short (i ∷ is) w = omega (arith, item_short i w.0, tabs_short is w.1, length-append (item_text i) (tabs (map item_text is)))

-- ---- lines
abbrev EntriesWritable : List Entry → Type 0
EntriesWritable [] = Unit {0}
EntriesWritable (e ∷ es) = AllWritable e.1 × EntriesWritable es

-- at most so many bytes for each line
abbrev room : List Entry → ℕ
room [] = 0
room (e ∷ es) = 6 + 18 * length e.1 + room es

word_short : (k : Kind) → length (word k) ≤ 5
word_short kinds.Row = omega arith
word_short kinds.Gust = omega arith
word_short kinds.Start = omega arith
word_short kinds.Keep = omega arith
word_short kinds.Steps = omega arith

lines_written : (es : List Entry) → EntriesWritable es → Lines (entries_text es) es []
lines_written [] w = refl
lines_written (e ∷ es) w = (map item_text e.1, entries_text es, refl, fields_written e.1 w.0, lines_written es w.1)

text_short : (es : List Entry) → EntriesWritable es → length (entries_text es) ≤ room es
text_short [] w = omega arith
text_short (e ∷ es) w =
    let head = word e.0 ++ tabs (map item_text e.1) in
    omega (arith, text_short es w.1, tabs_short e.1 w.0, word_short e.0, length-append (word e.0) (tabs (map item_text e.1)), length-append head (10 ∷ []), length-append (head ++ 10 ∷ []) (entries_text es))

writable_append : (xs ys : List Entry) → EntriesWritable xs → EntriesWritable ys → EntriesWritable (xs ++ ys)
writable_append [] ys v w = w
writable_append (x ∷ xs) ys v w = (v.0, writable_append xs ys v.1 w)

room-append : (xs ys : List Entry) → room (xs ++ ys) ≡ room xs + room ys
room-append [] ys = omega arith
room-append (x ∷ xs) ys = let e = room-append xs ys in omega arith

-- ---- the plan
four_writable : (v : List ℤ) → DirectionLimits v → (is : List Item) → AllWritable is → AllWritable (numbers4 v is)
four_writable v h is w = (small 0 (omega arith), (small 1 (omega arith), (small 2 (omega arith), (small 3 (omega arith), w))))
  where
    small : (i : ℕ) → i < 4 → nat_abs (part v i) < 10 ^ 16
    small i k = omega (arith, h i k)

gust_writable : (l : Loop) (j : ℕ) → j < 2 → MatrixLimits 2 l.gains → GustLimits l.centres l.radii → AllWritable (gust_entry j l).1
gust_writable l j h m g =
    (omega arith, (omega (arith, m 0 j (omega arith) h), (omega (arith, m 1 j (omega arith) h), (omega (arith, m 2 j (omega arith) h), (omega (arith, m 3 j (omega arith) h), (omega (arith, g.1 j h), (omega (arith, g.1 j h), tt)))))))

tail_writable : (ks : List Kept) (n : ℕ) → AllSound ks → n ≤ 256 → EntriesWritable (tail_entries ks n)
tail_writable [] n a h = ((omega arith, tt), tt)
tail_writable (k ∷ ks) n a h = ((a.0.3, four_writable k.entries a.0.1 (number k.threshold ∷ []) (omega (arith, a.0.2), tt)), tail_writable ks n a.1 h)

tail_room : (ks : List Kept) (n : ℕ) → room (tail_entries ks n) ≡ 114 * length ks + 24
tail_room [] n = omega arith
tail_room (k ∷ ks) n = let e = tail_room ks n in omega arith

plan_writable : (s : Sheet) → Sound s → EntriesWritable (entries s)
plan_writable s d =
    let row = λ (i : ℕ) (h : i < 4) (j : ℕ) (k : j < 4). d.model.0 i j h k in
    let at = λ (i : ℕ) (h : i < 4). d.start.2.1 i h in
    writable_append (loop_entries s.loop) (begin_entries s.begin ++ tail_entries s.keeps s.steps) (
      (omega arith, four_writable (get_or s.loop.matrix 0 []) (row 0 (omega arith)) [] tt),
      (
        (omega arith, four_writable (get_or s.loop.matrix 1 []) (row 1 (omega arith)) [] tt),
        (
          (omega arith, four_writable (get_or s.loop.matrix 2 []) (row 2 (omega arith)) [] tt),
          (
            (omega arith, four_writable (get_or s.loop.matrix 3 []) (row 3 (omega arith)) [] tt),
            (gust_writable s.loop 0 (omega arith) d.model.1 d.model.2, (gust_writable s.loop 1 (omega arith) d.model.1 d.model.2, tt)),
          ),
        ),
      ),
    )
    (writable_append (begin_entries s.begin) (tail_entries s.keeps s.steps) (
      (omega arith, (omega (arith, at 0 (omega arith)), (omega (arith, at 0 (omega arith)), tt))),
      (
        (omega arith, (omega (arith, at 1 (omega arith)), (omega (arith, at 1 (omega arith)), tt))),
        (
          (omega arith, (omega (arith, at 2 (omega arith)), (omega (arith, at 2 (omega arith)), tt))),
          ((omega arith, (omega (arith, at 3 (omega arith)), (omega (arith, at 3 (omega arith)), tt))), tt),
        ),
      ),
    )
    (tail_writable s.keeps s.steps d.keeps d.brief))

plan_short : (s : Sheet) → Sound s → length (plan_text s) ≤ 8192
plan_short s d =
    let ks = tail_entries s.keeps s.steps in
    omega (arith, text_short (entries s) (plan_writable s d), room-append (loop_entries s.loop) (begin_entries s.begin ++ ks), room-append (begin_entries s.begin) ks, tail_room s.keeps s.steps, d.few)

-- the text of every plan within its limits spells it, and is read as it
pub text_spells : (s : Sheet) → Sound s → Spells (plan_text s) s
text_spells s d = record { short = plan_short s d; sound = d; lines = lines_written (entries s) (plan_writable s d) }

pub text_read : (s : Sheet) → Sound s → plan_of (plan_text s) ≡ Ok s
text_read s d = plan_full (plan_text s) s (text_spells s d)
