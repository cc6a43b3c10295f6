-- What the lines of a report say of permitted runs holds.
use Rattle.std.proofs.Common.{◌≡◌, ℕ, zero, suc, ◌+◌, ◌*◌, ◌<◌, ◌≤◌, List, [], ◌∷◌, ◌++◌, length, get_or, drop, ℤ, neg_ℤ, ◌≤ℤ◌, Some, None, codes, decimal, Option, sym, refl, ap, ◌∙◌, subst, arith}
use borrow.Author.Differences.{ints}
use Rattle.std.proofs.lemmas.List.FromFn.{length-map-range_with_len, get_or-map-range_with_len}
use Rattle.std.proofs.lemmas.Fmt.{decimal_injective}
use Rattle.std.proofs.lemmas.List.{append-nil, append_cancel_left, append_cancel_right, get_or_append_left, get_or-append-add, get_or-map}
use Rattle.arith.specs.Products.{dot}
use Rattle.arith.specs.Sums.{part}
use Rattle.arith.proofs.Bridge.{dot-left}
use Rattle.dynamics.specs.Runs.{state}
use Rattle.dynamics.specs.Values.{State, along}
use Rattle.domains.specs.Axes.{signed, unit, axis}
use Rattle.domains.specs.Meaning.{Answer, Lawful}
use Rattle.domains.specs.AxesLemmas.{unit-dot}
use Rattle.domains.specs.BoxLaws.{box_lawful}
use Rattle.layers.specs.ProductLaws.{product_lawful}
use Rattle.zonotope.specs.Laws.{zonotope_lawful}
use Rattle.plan.specs.Grammar.{tabs}
use Rattle.plan.specs.Plans.{Sheet}
use Rattle.plan.specs.Report.{clear_line, open_line}
use Rattle.plan.specs.Spelling.{Sound}
use Rattle.tube.specs.declared.finding.Finding.{Finding}
use Rattle.tube.specs.declared.finding.Finding.TheVariants.{Clear, Open}
use Rattle.tube.specs.Promise.{JudgedBy}
use Rattle.tube.proofs.Soundness.{run_bound, not_entered}
use Rattle.report.specs.Lines.{in_front, ends, step_text, keep_text}
use Rattle.report.specs.Report.{stack, new_stack, bound_at, numbers_at, finding_of, step_lines, keep_lines, report_lines, bytes}
use Rattle.report.specs.Sentence.{cut, keep_line, Sentence}
use Rattle.report.specs.Tasks.{Labelled, Task, task}
use Rattle.report.proofs.Cuts.{report-cut}
use Rattle.report.proofs.Found.{verdict-judged}

pub stack_lawful : Lawful stack
stack_lawful = product_lawful zonotope_lawful box_lawful

pub new_fits : stack.fits new_stack
new_fits = (tt, tt)

-- ---- lines of a keep-out tell its finding
-- what follows the label
after_label : (label a b : List ℕ) → (label ++ a) ++ (10 ∷ []) ≡ (label ++ b) ++ (10 ∷ []) → a ≡ b
after_label label a b e = append_cancel_left label a b (append_cancel_right (label ++ a) (label ++ b) (10 ∷ []) e)

clear_told : (label : List ℕ) (f : Finding) → keep_text label f ≡ clear_line label → f ≡ Clear
clear_told label Clear e = refl
clear_told label (Open s) e =
    let q = after_label label (tabs (codes "open" ∷ decimal s ∷ [])) (tabs (codes "clear" ∷ [])) (ap (drop 5) e) in
    let z : ◌≡◌ {A = ℕ} 111 99 = ap (λ (l : List ℕ). get_or l 1 0) q in
    absurd (omega arith)

open_told : (label : List ℕ) (f : Finding) (since : ℕ) → since ≤ 256 → (((s : ℕ) → f ≡ Open s → s ≤ 256)) → keep_text label f ≡ open_line label since → f ≡ Open since
open_told label Clear since h k e =
    let q = after_label label (tabs (codes "clear" ∷ [])) (tabs (codes "open" ∷ decimal since ∷ [])) (ap (drop 5) e) in
    let z : ◌≡◌ {A = ℕ} 99 111 = ap (λ (l : List ℕ). get_or l 1 0) q in
    absurd (omega arith)
open_told label (Open s) since h k e =
    let q = after_label label (tabs (codes "open" ∷ decimal s ∷ [])) (tabs (codes "open" ∷ decimal since ∷ [])) (ap (drop 5) e) in
    let d : decimal s ≡ decimal since = sym (append-nil (decimal s)) ∙ ap (drop 6) q ∙ append-nil (decimal since) in
    let l = k s refl in
    ap Open (decimal_injective s since (omega arith) (omega arith) d)

-- ---- lines by their places
module _ (t : Task) where
  steps_count : length (step_lines stack new_stack t) ≡ t.steps + 1
  steps_count = length-map-range_with_len (λ k. step_text k (numbers_at stack new_stack t k)) 0 (t.steps + 1)

  keep_line_is : (n : ℕ) (k : Labelled) → n < length t.keeps → k ≡ get_or t.keeps n k → keep_line t n ≡ keep_text k.label (finding_of stack new_stack t k)
  keep_line_is n k h e =
      let q : t.steps + 1 + n ≡ length (step_lines stack new_stack t) + n = omega (arith, steps_count) in
      ap (λ (i : ℕ). get_or (report_lines t) i []) q
      ∙ get_or-append-add (step_lines stack new_stack t) (keep_lines stack new_stack t) n []
      ∙ get_or-map (λ (o : Labelled). keep_text o.label (finding_of stack new_stack t o)) t.keeps n k [] h
      ∙ ap (λ (o : Labelled). keep_text o.label (finding_of stack new_stack t o)) (sym e)

  step_line_is : (k : ℕ) → k ≤ t.steps → get_or (report_lines t) k [] ≡ step_text k (numbers_at stack new_stack t k)
  step_line_is k h =
      get_or_append_left (step_lines stack new_stack t) (keep_lines stack new_stack t) [] k (omega (arith, steps_count))
      ∙ get_or-map-range_with_len (λ k. step_text k (numbers_at stack new_stack t k)) 0 (t.steps + 1) k k [] (omega arith) (omega arith)

  judged : (k : Labelled) → JudgedBy (λ j. bound_at stack new_stack t j k.keep_out.direction) k.keep_out.threshold t.steps (finding_of stack new_stack t k)
  judged k = verdict-judged (λ j. bound_at stack new_stack t j k.keep_out.direction) k.keep_out.threshold t.steps

  judged_as : (k : Labelled) (f : Finding) → finding_of stack new_stack t k ≡ f → JudgedBy (λ j. bound_at stack new_stack t j k.keep_out.direction) k.keep_out.threshold t.steps f
  judged_as k f e = subst (JudgedBy (λ j. bound_at stack new_stack t j k.keep_out.direction) k.keep_out.threshold t.steps) e (judged k)

-- ---- the numbers of a step
pub record Ends (low high : Option ℤ) (later : Option (List ℤ)) (numbers : List ℤ) : Type 0 where
  pub least : ℤ
  pub greatest : ℤ
  pub rest : List ℤ
  pub low_is : low ≡ Some least
  pub high_is : high ≡ Some greatest
  pub later_is : later ≡ Some rest
  pub numbers_are : numbers ≡ neg_ℤ least ∷ greatest ∷ rest

ends_of : (low high : Option ℤ) (later : Option (List ℤ)) (numbers : List ℤ) → in_front low high later ≡ Some numbers → Ends low high later numbers
ends_of None high later numbers e = let z : ◌≡◌ {A = ℕ} 0 1 = cc in absurd (omega arith)
ends_of (Some low) None later numbers e = let z : ◌≡◌ {A = ℕ} 0 1 = cc in absurd (omega arith)
ends_of (Some low) (Some high) None numbers e = let z : ◌≡◌ {A = ℕ} 0 1 = cc in absurd (omega arith)
ends_of (Some low) (Some high) (Some later) numbers e = record { least = low; greatest = high; rest = later; low_is = refl; high_is = refl; later_is = refl; numbers_are = cc }

at_some : {o : Option ℤ} {z : ℤ} (P : ℤ → Type 0) → o ≡ Some z → Answer o P → P z
at_some P e h = subst (λ (o : Option ℤ). Answer o P) e h

-- a number between minus a bound on its negative and a bound on itself
one : (z l g : ℤ) → neg_ℤ z ≤ℤ l → z ≤ℤ g → (neg_ℤ l ≤ℤ z) × (z ≤ℤ g)
one z l g h k = (omega (arith, ints), k)

four : (x : State) (n : List ℤ) → (neg_ℤ (x 0) ≤ℤ part n 0) × (x 0 ≤ℤ part n 1) × (neg_ℤ (x 1) ≤ℤ part n 2) × (x 1 ≤ℤ part n 3) × (neg_ℤ (x 2) ≤ℤ part n 4) × (x 2 ≤ℤ part n 5) × (neg_ℤ (x 3) ≤ℤ part n 6) × (x 3 ≤ℤ part n 7)
    → (i : ℕ) → i < 4 → let m = neg_ℤ (part n 0) ∷ part n 1 ∷ neg_ℤ (part n 2) ∷ part n 3 ∷ neg_ℤ (part n 4) ∷ part n 5 ∷ neg_ℤ (part n 6) ∷ part n 7 ∷ [] in (part m (2 * i) ≤ℤ x i) × (x i ≤ℤ part m (2 * i + 1))
four x n h zero l = one (x 0) (part n 0) (part n 1) h.0 h.1
four x n h (suc zero) l = one (x 1) (part n 2) (part n 3) h.2 h.3
four x n h (suc (suc zero)) l = one (x 2) (part n 4) (part n 5) h.4 h.5
four x n h (suc (suc (suc zero))) l = one (x 3) (part n 6) (part n 7) h.6 h.7
four x n h (suc (suc (suc (suc i)))) l = absurd (omega arith)

-- x lies between minus the bound on its negative axis and the bound on its positive one
between : (b : ℕ → Option ℤ) (x : State) → ((a : ℕ) → a < 8 → Answer (b a) (λ z. signed a x ≤ℤ z)) → (numbers : List ℤ) → ends b ≡ Some numbers
    → (i : ℕ) → i < 4 → (part numbers (2 * i) ≤ℤ x i) × (x i ≤ℤ part numbers (2 * i + 1))
between b x h numbers e i l =
    let p = ends_of (b 1) (b 0) (in_front (b 3) (b 2) (in_front (b 5) (b 4) (in_front (b 7) (b 6) (Some [])))) numbers e in
    let q = ends_of (b 3) (b 2) (in_front (b 5) (b 4) (in_front (b 7) (b 6) (Some []))) p.rest p.later_is in
    let r = ends_of (b 5) (b 4) (in_front (b 7) (b 6) (Some [])) q.rest q.later_is in
    let s = ends_of (b 7) (b 6) (Some []) r.rest r.later_is in
    let n = p.least ∷ p.greatest ∷ q.least ∷ q.greatest ∷ r.least ∷ r.greatest ∷ s.least ∷ s.greatest ∷ [] in
    let none : s.rest ≡ [] = cc in
    let m : numbers ≡ neg_ℤ p.least ∷ p.greatest ∷ neg_ℤ q.least ∷ q.greatest ∷ neg_ℤ r.least ∷ r.greatest ∷ neg_ℤ s.least ∷ s.greatest ∷ [] = cc in
    subst (λ (ns : List ℤ). (part ns (2 * i) ≤ℤ x i) × (x i ≤ℤ part ns (2 * i + 1))) (sym m)
    (four x n (
      at_some (λ z. neg_ℤ (x 0) ≤ℤ z) p.low_is (h 1 (omega arith)),
      at_some (λ z. x 0 ≤ℤ z) p.high_is (h 0 (omega arith)),
      at_some (λ z. neg_ℤ (x 1) ≤ℤ z) q.low_is (h 3 (omega arith)),
      at_some (λ z. x 1 ≤ℤ z) q.high_is (h 2 (omega arith)),
      at_some (λ z. neg_ℤ (x 2) ≤ℤ z) r.low_is (h 5 (omega arith)),
      at_some (λ z. x 2 ≤ℤ z) r.high_is (h 4 (omega arith)),
      at_some (λ z. neg_ℤ (x 3) ≤ℤ z) s.low_is (h 7 (omega arith)),
      at_some (λ z. x 3 ≤ℤ z) s.high_is (h 6 (omega arith)),
    ) i l)

signed_is : (a : ℕ) (x : State) → a < 8 → dot (along (axis a)) x ≡ signed a x
signed_is a x h = dot-left (unit a) x ∙ unit-dot x a h

said : (t : Task) → t.steps ≤ 256 → cut (bytes (report_lines t)) ≡ report_lines t → Sentence t
said t brief cuts = record {
  lines = cuts;
  clear = λ n k h e c xs r j l x.
      let f = clear_told k.label (finding_of stack new_stack t k) (sym (keep_line_is t n k h e) ∙ c) in
      not_entered stack_lawful t.model t.start new_stack new_fits k.keep_out xs r j (judged_as t k Clear f j l) x;
  open_since = λ n k since small h e c xs r j l x.
      let f = open_told k.label (finding_of stack new_stack t k) since small (λ s q. omega (arith, (judged_as t k (Open s) q).0)) (sym (keep_line_is t n k h e) ∙ c) in
      not_entered stack_lawful t.model t.start new_stack new_fits k.keep_out xs r j ((judged_as t k (Open since) f).2 j l) x;
  encloses = λ k l numbers e. (
    step_line_is t k l ∙ ap (step_text k) e,
    λ xs r h. between (λ a. bound_at stack new_stack t k (axis a)) (state xs k)
        (λ a q. subst (λ (z : ℤ). Answer (bound_at stack new_stack t k (axis a)) (λ b. z ≤ℤ b)) (signed_is a (state xs k) q) (run_bound stack_lawful t.model t.start new_stack new_fits xs r k h (axis a))) numbers e,
  );
}

pub sentence : (s : Sheet) (h : Sound s) → Sentence (task s h)
sentence s h = said (task s h) h.brief (report-cut stack_lawful new_stack new_fits s h)
