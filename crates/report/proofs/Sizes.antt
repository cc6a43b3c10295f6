-- How long the lines of a report can be.
use Rattle.std.proofs.Common.{◌≡◌, ℕ, zero, suc, ◌+◌, ◌*◌, ◌^◌, ◌<◌, ◌≤◌, true, ◌&&◌, leb, List, [], ◌∷◌, map, length, ℤ, pos, negsuc, neg_ℤ, nat_abs, Some, None, codes, decimal, Option, refl, ap, arith}
use borrow.Author.Differences.{ints}
use Rattle.std.proofs.lemmas.Grind.{flat_map-append}
use Rattle.std.proofs.lemmas.Fmt.{length-decimal-le}
use Rattle.std.proofs.lemmas.List.{length-append, length-map}
use Rattle.std.proofs.lemmas.Bool.{and_parts, leb-true}
use Rattle.std.specs.List.{range_with_len}
use Rattle.std.specs.Fmt.{signed_decimal}
use Rattle.domains.specs.Axes.{axis}
use Rattle.domains.specs.Meaning.{Meaning, Answer, Lawful}
use Rattle.plan.specs.Fields.{is_label, all_plain}
use Rattle.plan.specs.Grammar.{tabs, line}
use Rattle.plan.specs.Keeps.{Kept}
use Rattle.plan.specs.Plans.{Sheet}
use Rattle.plan.specs.Report.{refused_line}
use Rattle.plan.specs.Spelling.{AllSound, Sound}
use Rattle.plan.specs.declared.told.Told.{Told}
use Rattle.tube.specs.declared.finding.Finding.{Finding}
use Rattle.tube.specs.declared.finding.Finding.TheVariants.{Clear, Open}
use Rattle.tube.specs.Promise.{JudgedBy}
use Rattle.tube.proofs.Soundness.{form_fits}
use Rattle.report.specs.Lines.{in_front, ends, step_text, keep_text}
use Rattle.report.specs.Pages.{page_size}
use Rattle.report.specs.Report.{bound_at, numbers_at, finding_of, step_lines, keep_lines, lines_over, bytes}
use Rattle.report.specs.Tasks.{Labelled, Task, labelled, all_labelled, task}
use Rattle.report.proofs.Found.{verdict-judged}

-- ---- lines of fields
abbrev Short : ℕ → List (List ℕ) → Type 0
Short m [] = Unit {0}
Short m (f ∷ fs) = (length f ≤ m) × Short m fs

tabs_short : (m : ℕ) (fs : List (List ℕ)) → Short m fs → length (tabs fs) ≤ length fs * (m + 1)
tabs_short m [] h = omega arith
tabs_short m (f ∷ fs) h = let k = tabs_short m fs h.1 in simp (length-append, mul_rows) (omega (arith, h.0))
  where
    mul_rows : suc (length fs) * (m + 1) ≡ (m + 1) + length fs * (m + 1)
    mul_rows = omega arith

line-length : (w : List ℕ) (fs : List (List ℕ)) → length (line (w ∷ fs)) ≡ length w + length (tabs fs) + 1
line-length w fs = simp length-append (omega arith)

pub refusal_short : (t : Told) → t.number < 2 ^ 64 → t.line < 2 ^ 64 → t.field < 2 ^ 64 → t.place < 2 ^ 64 → length (refused_line t) ≤ 92
refusal_short t a b c d =
    let fs = decimal t.number ∷ decimal t.line ∷ decimal t.field ∷ decimal t.place ∷ [] in
    let short = λ (n : ℕ) (h : n < 2 ^ 64). length-decimal-le 20 n (omega arith) (omega arith) h in
    omega (arith, line-length (codes "refused") fs, tabs_short 20 fs (short t.number a, (short t.line b, (short t.field c, (short t.place d, tt)))))

step_short : (k : ℕ) → k ≤ 256 → length (decimal k) ≤ 3
step_short k h = length-decimal-le 3 k (omega arith) (omega arith) (omega arith)

signed_short : (z : ℤ) → nat_abs z ≤ 2 ^ 52 → length (signed_decimal z) ≤ 17
signed_short (pos n) h = let k = length-decimal-le 16 n (omega arith) (omega arith) (omega arith) in omega arith
signed_short (negsuc n) h = let k = length-decimal-le 16 (suc n) (omega arith) (omega arith) (omega arith) in omega arith

abbrev pub Small : List ℤ → Type 0
Small [] = Unit {0}
Small (z ∷ zs) = (nat_abs z ≤ 2 ^ 52) × Small zs

numbers_short : (zs : List ℤ) → Small zs → Short 17 (map signed_decimal zs)
numbers_short [] h = tt
numbers_short (z ∷ zs) h = (signed_short z h.0, numbers_short zs h.1)

-- ---- the line of a step
abbrev pub Fine : Option (List ℤ) → ℕ → Type 0
Fine None n = Unit {0}
Fine (Some zs) n = Small zs × (length zs ≡ n)

abbrev Bound : Option ℤ → Type 0
Bound o = Answer o (λ b. nat_abs b ≤ 2 ^ 52)

negated_small : (z : ℤ) → nat_abs z ≤ 2 ^ 52 → nat_abs (neg_ℤ z) ≤ 2 ^ 52
negated_small z h = omega (arith, ints)

front_fine : (low high : Option ℤ) (later : Option (List ℤ)) (n : ℕ) → Bound low → Bound high → Fine later n → Fine (in_front low high later) (2 + n)
front_fine None high later n a b c = tt
front_fine (Some low) None later n a b c = tt
front_fine (Some low) (Some high) None n a b c = tt
front_fine (Some low) (Some high) (Some later) n a b c = ((negated_small low a, (b, c.0)), omega (arith, c.1))

ends_fine : (b : ℕ → Option ℤ) → ((a : ℕ) → Bound (b a)) → Fine (ends b) 8
ends_fine b h =
    front_fine (b 1) (b 0) (in_front (b 3) (b 2) (in_front (b 5) (b 4) (in_front (b 7) (b 6) (Some [])))) 6 (h 1) (h 0)
    (front_fine (b 3) (b 2) (in_front (b 5) (b 4) (in_front (b 7) (b 6) (Some []))) 4 (h 3) (h 2)
    (front_fine (b 5) (b 4) (in_front (b 7) (b 6) (Some [])) 2 (h 5) (h 4) (front_fine (b 7) (b 6) (Some []) 0 (h 7) (h 6) (tt, refl))))

step_line_short : (k : ℕ) (o : Option (List ℤ)) → k ≤ 256 → Fine o 8 → length (step_text k o) ≤ 153
step_line_short k None h f =
    let s = step_short k h in
    omega (arith, line-length (codes "step") (decimal k ∷ codes "unbounded" ∷ []), length-append (decimal k) (tabs (codes "unbounded" ∷ [])), length-append (codes "unbounded") [])
step_line_short k (Some zs) h f =
    let s = step_short k h in
    omega (arith, line-length (codes "step") (decimal k ∷ map signed_decimal zs), length-append (decimal k) (tabs (map signed_decimal zs)), tabs_short 17 (map signed_decimal zs) (numbers_short zs f.0), length-map zs signed_decimal, f.1)

-- ---- the line of a keep-out
abbrev pub Early : Finding → Type 0
Early Clear = Unit {0}
Early (Open s) = s ≤ 256

keep_line_short : (label : List ℕ) (f : Finding) → length label ≤ 12 → Early f → length (keep_text label f) ≤ 27
keep_line_short label Clear h e = omega (arith, line-length (codes "keep") (label ∷ codes "clear" ∷ []), length-append label (tabs (codes "clear" ∷ [])))
keep_line_short label (Open s) h e =
    let k = step_short s e in
    omega (arith, line-length (codes "keep") (label ∷ codes "open" ∷ decimal s ∷ []), length-append label (tabs (codes "open" ∷ decimal s ∷ [])), length-append (decimal s) [])

judged_early : (b : ℕ → Option ℤ) (t : ℤ) (n : ℕ) (f : Finding) → n ≤ 256 → JudgedBy b t n f → Early f
judged_early b t n Clear h j = tt
judged_early b t n (Open s) h j = omega (arith, j.0)

label_short : (l : List ℕ) → is_label l ≡ true → length l ≤ 12
label_short l h =
    let p = and_parts (leb 1 (length l)) (leb (length l) 12 && all_plain l) h in
    leb-true (length l) 12 (and_parts (leb (length l) 12) (all_plain l) p.1).0

-- ---- all lines
steps_bytes : (f : ℕ → List ℕ) (a n : ℕ) → ((i : ℕ) → i < a + n → length (f i) ≤ 153) → length (bytes (map f (range_with_len a n))) ≤ 153 * n
steps_bytes f a zero h = omega arith
steps_bytes f a (suc n) h =
    omega (arith, length-append (f a) (bytes (map f (range_with_len (a + 1) n))), h a (omega arith), steps_bytes f (a + 1) n (λ i k. h i (omega arith)))

keeps_bytes : (v : Labelled → Finding) → ((k : Labelled) → Early (v k)) → (ks : List Kept) (h : AllSound ks) → length (bytes (map (λ k. keep_text k.label (v k)) (all_labelled ks h))) ≤ 27 * length ks
keeps_bytes v e [] h = omega arith
keeps_bytes v e (k ∷ ks) h =
    let l = labelled k h.0 in
    omega (arith, length-append (keep_text l.label (v l)) (bytes (map (λ k. keep_text k.label (v k)) (all_labelled ks h.1))), keep_line_short k.label (v l) (label_short k.label h.0.3) (e l), keeps_bytes v e ks h.1)

-- every report fits a page
module _ {F : Type 0} {d : Meaning F} (laws : Lawful d) (f : F) (fits : d.fits f) (s : Sheet) (h : Sound s) where
  abbrev t : Task
  t = task s h

  pub numbers_fine : (k : ℕ) → Fine (numbers_at d f t k) 8
  numbers_fine k = ends_fine (λ a. bound_at d f t k (axis a)) (λ a. laws.bound_limit (axis a) _ (form_fits laws t.model t.start f fits k))

  pub finding_early : (k : Labelled) → Early (finding_of d f t k)
  finding_early k =
      let b = λ (j : ℕ). bound_at d f t j k.keep_out.direction in
      judged_early b k.keep_out.threshold s.steps (finding_of d f t k) h.brief (verdict-judged b k.keep_out.threshold s.steps)

  pub report_short : length (bytes (lines_over d f t)) ≤ page_size
  report_short =
      omega (
        arith,
        ap length (flat_map-append (λ (l : List ℕ). l) (step_lines d f t) (keep_lines d f t)),
        length-append (bytes (step_lines d f t)) (bytes (keep_lines d f t)),
        steps_bytes (λ k. step_text k (numbers_at d f t k)) 0 (s.steps + 1) (λ i l. step_line_short i (numbers_at d f t i) (omega (arith, h.brief)) (numbers_fine i)),
        keeps_bytes (finding_of d f t) finding_early s.keeps h.keeps,
        h.brief,
        h.few,
      )
