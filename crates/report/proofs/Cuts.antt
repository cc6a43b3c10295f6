-- The bytes of a report are cut into its lines again.
use Rattle.std.proofs.Common.{◌≡◌, ℕ, zero, suc, ◌+◌, ◌<◌, ◌≤◌, true, false, eqb, leb, List, [], ◌∷◌, ◌++◌, map, ℤ, pos, Some, None, codes, decimal, Option, sym, refl, ap, ◌∙◌, arith}
use Rattle.std.proofs.lemmas.List.{append_assoc}
use Rattle.std.proofs.lemmas.Bool.{cond-false, and_parts}
use Rattle.std.proofs.lemmas.Bool.Decides.{nat_tests}
use Rattle.std.specs.List.{range_with_len}
use Rattle.std.specs.Fmt.{signed_decimal}
use Rattle.domains.specs.Meaning.{Meaning, Lawful}
use Rattle.plan.specs.Fields.{is_label}
use Rattle.plan.specs.Grammar.{tabs, line}
use Rattle.plan.specs.Keeps.{Kept}
use Rattle.plan.specs.Plans.{Sheet}
use Rattle.plan.specs.Spelling.{AllSound, Sound, Item, number, label, Fields}
use Rattle.plan.proofs.Seams.{clean, all_clean, fields_clean}
use Rattle.plan.proofs.Texts.{numeral}
use Rattle.tube.specs.declared.finding.Finding.{Finding}
use Rattle.tube.specs.declared.finding.Finding.TheVariants.{Clear, Open}
use Rattle.report.specs.Lines.{step_text, keep_text}
use Rattle.report.specs.Report.{numbers_at, finding_of, keep_lines, lines_over, bytes}
use Rattle.report.specs.Sentence.{longer, cut}
use Rattle.report.specs.Tasks.{Labelled, Task, labelled, all_labelled, task}
use Rattle.report.proofs.Sizes.{Small, Fine, Early, numbers_fine, finding_early}

-- a line that is cut off whole, whatever follows it
abbrev Whole : List ℕ → Type 0
Whole l = (rest : List ℕ) → cut (l ++ rest) ≡ l ∷ cut rest

-- ---- one line
not_end : (b : ℕ) → leb 32 b ≡ true → eqb b 10 ≡ false
not_end b h = grind (arith, nat_tests)

past : (b : ℕ) → eqb b 10 ≡ false → (bs l : List ℕ) (ls : List (List ℕ)) → cut bs ≡ l ∷ ls → cut (b ∷ bs) ≡ (b ∷ l) ∷ ls
past b e bs l ls h = cond-false (eqb b 10) _ _ e ∙ ap (longer b) h

clean_past : (f u l : List ℕ) (ls : List (List ℕ)) → clean f ≡ true → cut u ≡ l ∷ ls → cut (f ++ u) ≡ (f ++ l) ∷ ls
clean_past [] u l ls h e = e
clean_past (b ∷ bs) u l ls h e =
    let p = and_parts (leb 32 b) (clean bs) h in
    past b (not_end b p.0) (bs ++ u) (bs ++ l) ls (clean_past bs u l ls p.1 e)

tabs_past : (fs : List (List ℕ)) (rest : List ℕ) → all_clean fs ≡ true → cut (tabs fs ++ (10 ∷ rest)) ≡ (tabs fs ++ (10 ∷ [])) ∷ cut rest
tabs_past [] rest h = refl
tabs_past (f ∷ fs) rest h =
    let p = and_parts (clean f) (all_clean fs) h in
    ap (λ (u : List ℕ). cut (9 ∷ u)) (append_assoc f (tabs fs) (10 ∷ rest))
    ∙ past 9 refl (f ++ (tabs fs ++ (10 ∷ rest))) (f ++ (tabs fs ++ (10 ∷ []))) (cut rest) (clean_past f (tabs fs ++ (10 ∷ rest)) (tabs fs ++ (10 ∷ [])) (cut rest) p.0 (tabs_past fs rest p.1))
    ∙ ap (λ (l : List ℕ). (9 ∷ l) ∷ cut rest) (sym (append_assoc f (tabs fs) (10 ∷ [])))

line-whole : (w : List ℕ) (fs : List (List ℕ)) (is : List Item) → clean w ≡ true → Fields fs is → Whole (line (w ∷ fs))
line-whole w fs is h k rest =
    ap cut (append_assoc (w ++ tabs fs) (10 ∷ []) rest ∙ append_assoc w (tabs fs) (10 ∷ rest))
    ∙ clean_past w (tabs fs ++ (10 ∷ rest)) (tabs fs ++ (10 ∷ [])) (cut rest) h (tabs_past fs rest (fields_clean fs is k))
    ∙ ap (λ (l : List ℕ). l ∷ cut rest) (sym (append_assoc w (tabs fs) (10 ∷ [])))

-- ---- the lines of a report
numbers_spelt : (zs : List ℤ) → Small zs → Fields (map signed_decimal zs) (map number zs)
numbers_spelt [] h = tt
numbers_spelt (z ∷ zs) h = (numeral z (omega (arith, h.0)), numbers_spelt zs h.1)

step_whole : (k : ℕ) (o : Option (List ℤ)) → k ≤ 256 → Fine o 8 → Whole (step_text k o)
step_whole k None h f = line-whole (codes "step") (decimal k ∷ codes "unbounded" ∷ []) (number (pos k) ∷ label (codes "unbounded") ∷ []) refl (numeral (pos k) (omega arith), ((refl, refl), tt))
step_whole k (Some zs) h f = line-whole (codes "step") (decimal k ∷ map signed_decimal zs) (number (pos k) ∷ map number zs) refl (numeral (pos k) (omega arith), numbers_spelt zs f.0)

keep_whole : (l : List ℕ) (f : Finding) → is_label l ≡ true → Early f → Whole (keep_text l f)
keep_whole l Clear h e = line-whole (codes "keep") (l ∷ codes "clear" ∷ []) (label l ∷ label (codes "clear") ∷ []) refl ((refl, h), ((refl, refl), tt))
keep_whole l (Open s) h e = line-whole (codes "keep") (l ∷ codes "open" ∷ decimal s ∷ []) (label l ∷ label (codes "open") ∷ number (pos s) ∷ []) refl ((refl, h), ((refl, refl), (numeral (pos s) (omega arith), tt)))

-- ---- all lines
steps_cut : (f : ℕ → List ℕ) (a n : ℕ) (rest : List (List ℕ)) → ((i : ℕ) → i < a + n → Whole (f i)) → cut (bytes rest) ≡ rest → cut (bytes (map f (range_with_len a n) ++ rest)) ≡ map f (range_with_len a n) ++ rest
steps_cut f a zero rest h e = e
steps_cut f a (suc n) rest h e =
    h a (omega arith) (bytes (map f (range_with_len (a + 1) n) ++ rest)) ∙ ap (λ (ls : List (List ℕ)). f a ∷ ls) (steps_cut f (a + 1) n rest (λ i k. h i (omega arith)) e)

keeps_cut : (v : Labelled → Finding) → ((k : Labelled) → Early (v k)) → (ks : List Kept) (h : AllSound ks) → let ls = map (λ k. keep_text k.label (v k)) (all_labelled ks h) in cut (bytes ls) ≡ ls
keeps_cut v e [] h = refl
keeps_cut v e (k ∷ ks) h =
    let l = labelled k h.0 in
    keep_whole k.label (v l) h.0.3 (e l) (bytes (map (λ k. keep_text k.label (v k)) (all_labelled ks h.1)))
    ∙ ap (λ (ls : List (List ℕ)). keep_text k.label (v l) ∷ ls) (keeps_cut v e ks h.1)

module _ {F : Type 0} {d : Meaning F} (laws : Lawful d) (f : F) (fits : d.fits f) (s : Sheet) (h : Sound s) where
  abbrev t : Task
  t = task s h

  pub report-cut : cut (bytes (lines_over d f t)) ≡ lines_over d f t
  report-cut =
      steps_cut (λ k. step_text k (numbers_at d f t k)) 0 (s.steps + 1) (keep_lines d f t)
      (λ k l. step_whole k (numbers_at d f t k) (omega (arith, h.brief)) (numbers_fine laws f fits s h k))
      (keeps_cut (finding_of d f t) (finding_early laws f fits s h) s.keeps h.keeps)
