-- A page on which a writer put a report from its start on.
use Rattle.std.proofs.Common.{◌≡◌, ℕ, ◌≤◌, List, [], ◌∷◌, ◌++◌, length, take, drop, Ok, Err, Result, refl, ap, ◌∙◌, subst, arith}
use Rattle.std.proofs.lemmas.List.Folds.{length-flat_map-take}
use Rattle.plan.specs.declared.writer.Full.{Full}
use Rattle.plan.specs.declared.writer.Writer.{Writer}
use Rattle.plan.specs.declared.faults.Refusal.{Refusal}
use Rattle.plan.specs.Plans.{Sheet, plan_of}
use Rattle.plan.specs.Report.{Added, Puts, told, refused_line}
use Rattle.plan.specs.Spelling.{Answers}
use Rattle.report.specs.declared.fault.Fault.{Fault}
use Rattle.report.specs.declared.fault.Fault.TheVariants as fault
use Rattle.report.specs.Pages.{Stopped, PutsAll, PutsTask, Holds, Printed, Roomy, page_size}
use Rattle.report.specs.Report.{bytes, report_lines}
use Rattle.report.specs.Reports.{Reports}
use Rattle.report.specs.Tasks.{task}
use Rattle.report.proofs.Putting.{none-put, one-put, not_put}

holds : (lines : List (List ℕ)) (page page' : List ℕ) (n : ℕ) → Added page 0 (bytes lines) page' n → (n ≡ length (bytes lines)) × Holds lines page page'
holds lines page page' n a =
    let e : n ≡ length (bytes lines) = omega (arith, a.longer) in
    (e, a.bytes ∙ ap (λ (k : ℕ). bytes lines ++ drop k page) e)

printed : (W : Type 0) (lines : List (List ℕ)) (page page' : List ℕ) (n : ℕ) → Added page 0 (bytes lines) page' n → Printed W lines page page' (Ok n)
printed W lines page page' n a = let h = holds lines page page' n a in (h.0, a.within, h.1)

stopped : (W : Type 0) (lines : List (List ℕ)) (page page' : List ℕ) (n : ℕ) (e : Full) → Stopped lines page 0 page' n → Printed W lines page page' (Err (fault.Line e))
stopped W lines page page' n e q =
    let h = holds (take q.put lines) page page' n q.whole in
    (q.put, q.some, omega (arith, q.full, h.0), h.1)

-- the answer of a report, by that of its writer
abbrev pub answered : ℕ → Result (Unit {0}) Fault → Result ℕ Fault
answered n (Ok u) = Ok n
answered n (Err e) = Err e

put_on : (W : Type 0) (lines : List (List ℕ)) (out out' : Writer) (r : Result (Unit {0}) Fault) → out.len ≡ 0 → PutsTask W lines out out' r → Printed W lines out.buf.now out'.buf.now (answered out'.len r)
put_on W lines out out' (Ok u) z p = printed W lines _ _ _ (subst (λ (n : ℕ). Added out.buf.now n (bytes lines) out'.buf.now out'.len) z p)
put_on W lines out out' (Err (fault.Line e)) z p = stopped W lines _ _ _ e (subst (λ (n : ℕ). Stopped lines out.buf.now n out'.buf.now out'.len) z p)
put_on W lines out out' (Err fault.Memory) z p = (p.0, p.1)

reports_by : (text : List ℕ) (P Q : Type 0 → List (List ℕ) → Type 0) → ((W : Type 0) (lines : List (List ℕ)) → P W lines → Q W lines) → Reports text P → Reports text Q
reports_by text P Q f r = record { accepted = λ s h. f _ _ (r.accepted s h); refused = λ e q. f _ _ (r.refused e q) }

-- the page is what was lent to the writer, and it holds at the end what the writer's buffer holds
pub on_page : (text : List ℕ) (out out' : Writer) (r : Result (Unit {0}) Fault) {page page' : List ℕ} {a : Result ℕ Fault} → out.len ≡ 0 → page ≡ out.buf.now → page' ≡ out'.buf.now → a ≡ answered out'.len r
    → Reports text (λ W lines. PutsTask W lines out out' r) → Reports text (λ W lines. Printed W lines page page' a)
on_page text out out' r z p q s h =
    coe 1 0 (i. Reports text (λ W lines. Printed W lines (p i) (q i) (s i)))
    (reports_by text (λ W lines. PutsTask W lines out out' r) (λ W lines. Printed W lines out.buf.now out'.buf.now (answered out'.len r)) (λ W lines k. put_on W lines out out' r z k) h)

-- a report that is no longer than a page's size is never stopped on such a page
roomy : (W : Type 0) (lines : List (List ℕ)) (page page' : List ℕ) (r : Result ℕ Fault) → length (bytes lines) ≤ page_size → page_size ≤ length page → Printed W lines page page' r → Roomy r
roomy W lines page page' (Ok n) h k p = tt
roomy W lines page page' (Err fault.Memory) h k p = tt
roomy W lines page page' (Err (fault.Line e)) h k p = omega (arith, p.2, length-flat_map-take (λ (l : List ℕ). l) lines p.0 [] p.1)

pub page_roomy : (text page page' : List ℕ) (r : Result ℕ Fault) → Answers text (plan_of text) → Reports text (λ W lines. length (bytes lines) ≤ page_size) → Reports text (λ W lines. Printed W lines page page' r) → page_size ≤ length page → Roomy r
page_roomy text page page' r law f p k = go (plan_of text) refl law
  where
    go : (o : Result Sheet Refusal) → plan_of text ≡ o → Answers text o → Roomy r
    go (Ok s) e l = let h = (l s).1 refl in roomy (Unit {0}) (report_lines (task s h.sound)) page page' r (f.accepted s h) k (p.accepted s h)
    go (Err e) q l = roomy ⊥ (refused_line (told e) ∷ []) page page' r (f.refused e q) k (p.refused e q)

pub page_within : (text page page' : List ℕ) (n : ℕ) → Answers text (plan_of text) → Reports text (λ W lines. Printed W lines page page' (Ok n)) → n ≤ length page
page_within text page page' n law p = go (plan_of text) refl law
  where
    go : (o : Result Sheet Refusal) → plan_of text ≡ o → Answers text o → n ≤ length page
    go (Ok s) e l = (p.accepted s ((l s).1 refl)).1
    go (Err e) q l = (p.refused e q).1

-- one line that was put or refused
pub one_line : (W : Type 0) (line : List ℕ) (before after : Writer) (r : Result (Unit {0}) Full) → before.len ≤ length before.buf.now → Puts line before after r → PutsAll (line ∷ []) before after r
one_line W line before after (Ok u) h p = one-put (line ∷ []) _ _ 0 _ _ (none-put _ _ h) _ _ (omega arith) p
one_line W line before after (Err e) h p = not_put (line ∷ []) _ _ 0 _ _ (none-put _ _ h) _ _ (omega arith) p
