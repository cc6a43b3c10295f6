-- When a text spells a plan: said by the format of its lines, not by how it is read.
use Rattle.std.specs.Prelude.{◌≡◌, ℕ, ◌+◌, ◌-◌, ◌*◌, ◌^◌, ◌≤◌, Bool, true, ◌&&◌, ◌⊎◌, List, [], ◌∷◌, ◌++◌, map, length, ℤ, pos, neg_ℤ, Ok, Err, Result, slice_index, slice_index_or, unsigned_abs}
use Rattle.arith.specs.Sums.{part, entry}
use Rattle.dynamics.specs.Limits.{DirectionLimits, ModelLimits, StartLimits, Exactly}
use Rattle.std.specs.Fmt.{signed_decimal}
use Rattle.plan.specs.declared.faults.Refusal.{Refusal}
use Rattle.plan.specs.declared.record.Kind.{Kind}
use Rattle.plan.specs.declared.record.Kind.TheVariants.{Row, Gust, Start, Keep, Steps}
use Rattle.plan.specs.Fields.{is_label}
use Rattle.plan.specs.Grammar.{line, word}
use Rattle.plan.specs.Keeps.{Kept}
use Rattle.plan.specs.Numbers.{is_digit, is_lead}
use Rattle.plan.specs.Plans.{Loop, Begin, Sheet}

abbrev pub all_digits : List ℕ → Bool
all_digits [] = true
all_digits (b ∷ bs) = is_digit b && all_digits bs

-- the number that digits write, after `v`
abbrev pub value : ℕ → List ℕ → ℕ
value v [] = v
value v (b ∷ bs) = value (v * 10 + (b - 48)) bs

-- a digit 1 to 9 and up to 15 more write n
pub record Magnitude (ds : List ℕ) (n : ℕ) : Type 0 where
  pub leads : is_lead (slice_index ds 0) ≡ true
  pub digits : all_digits ds ≡ true
  pub short : length ds ≤ 16
  pub worth : value 0 ds ≡ n

-- a field is the number z: `0`, or a magnitude, or `-` and a magnitude
abbrev pub Numeral : List ℕ → ℤ → Type 0
Numeral f z =
    ((f ≡ 48 ∷ []) × (z ≡ pos 0))
    ⊎ (((n : ℕ) × Magnitude f n × (z ≡ pos n)) ⊎ ((ds : List ℕ) × (n : ℕ) × (f ≡ 45 ∷ ds) × Magnitude ds n × (z ≡ neg_ℤ (pos n))))

-- what a field is to say
pub data Item : Type 0 where
  number : ℤ → Item
  label : List ℕ → Item

abbrev pub Spelt : List ℕ → Item → Type 0
Spelt f (number z) = Numeral f z
Spelt f (label l) = (f ≡ l) × (is_label l ≡ true)

-- fields say items, one by one
abbrev pub Fields : List (List ℕ) → List Item → Type 0
Fields [] [] = Unit {0}
Fields [] (i ∷ is) = ⊥
Fields (f ∷ fs) [] = ⊥
Fields (f ∷ fs) (i ∷ is) = Spelt f i × Fields fs is

-- a record: its kind, and what its fields are to say
abbrev pub Entry : Type 0
Entry = Kind × List Item

-- a text is the lines of some records, and then a rest
abbrev pub Lines : List ℕ → List Entry → List ℕ → Type 0
Lines t [] end = t ≡ end
Lines t (e ∷ es) end = (fs : List (List ℕ)) × (rest : List ℕ) × (t ≡ line (word e.0 ∷ fs) ++ rest) × Fields fs e.1 × Lines rest es end

-- the records of a plan
abbrev pub numbers4 : List ℤ → List Item → List Item
numbers4 v is = number (part v 0) ∷ number (part v 1) ∷ number (part v 2) ∷ number (part v 3) ∷ is

abbrev pub row_entry : ℕ → List ℤ → Entry
row_entry i v = (Row, number (pos i) ∷ numbers4 v [])

-- channel j, from 0
abbrev pub gust_entry : ℕ → Loop → Entry
gust_entry j l = (
  Gust,
  number (pos (j + 1)) ∷ number (entry l.gains 0 j) ∷ number (entry l.gains 1 j) ∷ number (entry l.gains 2 j) ∷ number (entry l.gains 3 j)
      ∷ number (part l.centres j) ∷ number (part l.radii j) ∷ [],
)

-- part i, from 0
abbrev pub start_entry : ℕ → Begin → Entry
start_entry i b = (Start, number (pos (i + 1)) ∷ number (part b.centres i) ∷ number (part b.radii i) ∷ [])

abbrev pub keep_entry : Kept → Entry
keep_entry k = (Keep, label k.label ∷ numbers4 k.entries (number k.threshold ∷ []))

abbrev pub steps_entry : ℕ → Entry
steps_entry n = (Steps, number (pos n) ∷ [])

abbrev pub loop_entries : Loop → List Entry
loop_entries l =
    row_entry 1 (slice_index_or l.matrix 0 []) ∷ row_entry 2 (slice_index_or l.matrix 1 []) ∷ row_entry 3 (slice_index_or l.matrix 2 []) ∷ row_entry 4 (slice_index_or l.matrix 3 []) ∷ gust_entry 0 l ∷ gust_entry 1 l ∷ []

abbrev pub begin_entries : Begin → List Entry
begin_entries b = start_entry 0 b ∷ start_entry 1 b ∷ start_entry 2 b ∷ start_entry 3 b ∷ []

abbrev pub tail_entries : List Kept → ℕ → List Entry
tail_entries [] n = steps_entry n ∷ []
tail_entries (k ∷ ks) n = keep_entry k ∷ tail_entries ks n

abbrev pub entries : Sheet → List Entry
entries s = loop_entries s.loop ++ (begin_entries s.begin ++ tail_entries s.keeps s.steps)

-- vectors of four, and a matrix of four rows of n
abbrev pub Square : ℕ → List (List ℤ) → Type 0
Square n a = (length a ≡ 4) × (length (slice_index_or a 0 []) ≡ n) × (length (slice_index_or a 1 []) ≡ n) × (length (slice_index_or a 2 []) ≡ n) × (length (slice_index_or a 3 []) ≡ n)

abbrev pub KeptSound : Kept → Type 0
KeptSound k = (length k.entries ≡ 4) × DirectionLimits k.entries × (unsigned_abs k.threshold ≤ 2 ^ 52) × (is_label k.label ≡ true)

abbrev pub AllSound : List Kept → Type 0
AllSound [] = Unit {0}
AllSound (k ∷ ks) = KeptSound k × AllSound ks

-- a plan within its limits
pub record Sound (s : Sheet) : Type 0 where
  pub matrix : Square 4 s.loop.matrix
  pub gains : Square 2 s.loop.gains
  pub gusts : (length s.loop.centres ≡ 2) × (length s.loop.radii ≡ 2)
  pub model : ModelLimits s.loop.matrix s.loop.gains s.loop.centres s.loop.radii
  pub start : (length s.begin.centres ≡ 4) × (length s.begin.radii ≡ 4) × StartLimits s.begin.centres s.begin.radii
  pub keeps : AllSound s.keeps
  pub few : length s.keeps ≤ 16
  pub brief : s.steps ≤ 256

-- a text of at most 8,192 bytes spells a plan within its limits
pub record Spells (t : List ℕ) (s : Sheet) : Type 0 where
  pub short : length t ≤ 8192
  pub sound : Sound s
  pub lines : Lines t (entries s) []

-- the answer to a text: the one plan that it spells, or a refusal where it spells none
abbrev pub Answers : List ℕ → Result Sheet Refusal → Type 0
Answers t (Ok p) = (s : Sheet) → Exactly (Spells t s) (s ≡ p)
Answers t (Err e) = (s : Sheet) → Spells t s → ⊥

-- ---- the writer of plan text
abbrev pub item_text : Item → List ℕ
item_text (number z) = signed_decimal z
item_text (label l) = l

abbrev pub entries_text : List Entry → List ℕ
entries_text [] = []
entries_text (e ∷ es) = line (word e.0 ∷ map item_text e.1) ++ entries_text es

-- the text of a plan
abbrev pub plan_text : Sheet → List ℕ
plan_text s = entries_text (entries s)
