-- The report of a text, by what its reader answered.
use Rattle.std.proofs.Common.{◌≡◌, ℕ, ◌≤◌, List, [], ◌∷◌, length, Ok, Err, Result, sym, ap, ◌∙◌, subst, arith}
use Rattle.std.proofs.lemmas.List.{append-nil}
use Rattle.plan.specs.declared.faults.Refusal.{Refusal}
use Rattle.plan.specs.declared.plan.Plan.{Plan}
use Rattle.plan.specs.Plans.{Sheet, sheet, plan_of}
use Rattle.plan.specs.Report.{told, refused_line}
use Rattle.plan.specs.Spelling.{Answers}
use Rattle.report.specs.Pages.{page_size}
use Rattle.report.specs.Report.{report_lines, new_stack, bytes}
use Rattle.report.specs.Reports.{Reports}
use Rattle.report.specs.Tasks.{Task, plan_task}
use Rattle.report.proofs.Said.{stack_lawful, new_fits}
use Rattle.report.proofs.Sizes.{report_short}
use Rattle.report.proofs.Spelt.{task_is}

module _ (text : List ℕ) (P : Type 0 → List (List ℕ) → Type 0) where
  pub of_plan : (p : Plan) → Answers text (Ok (sheet text p)) → Ok (sheet text p) ≡ plan_of text → P (Unit {0}) (report_lines (plan_task text p)) → Reports text P
  of_plan p law value k = record {
    accepted = λ s h. subst (λ (t : Task). P (Unit {0}) (report_lines t)) (sym (task_is text p s h.sound ((law s).0 h))) k;
    refused = λ e q. let both : ◌≡◌ {A = Result Sheet Refusal} (Ok (sheet text p)) (Err e) = value ∙ q in let z : ◌≡◌ {A = ℕ} 0 1 = cc in absurd (omega arith);
  }

  pub of_refusal : (e : Refusal) → Answers text (Err e) → Err e ≡ plan_of text → P ⊥ (refused_line (told e) ∷ []) → Reports text P
  of_refusal e law value k = record {
    accepted = λ s h. absurd (law s h);
    refused = λ o q. let both : ◌≡◌ {A = Result Sheet Refusal} (Err e) (Err o) = value ∙ q in let same : e ≡ o = cc in subst (λ (e : Refusal). P ⊥ (refused_line (told e) ∷ [])) same k;
  }

-- every report, and every refusal's line, fits a page
abbrev Fits : Type 0 → List (List ℕ) → Type 0
Fits W lines = length (bytes lines) ≤ page_size

pub plan_fits : (text : List ℕ) (p : Plan) → Answers text (Ok (sheet text p)) → Ok (sheet text p) ≡ plan_of text → Reports text Fits
plan_fits text p law value = record {
  accepted = λ s h. report_short stack_lawful new_stack new_fits s h.sound;
  refused = λ e q. let both : ◌≡◌ {A = Result Sheet Refusal} (Ok (sheet text p)) (Err e) = value ∙ q in let z : ◌≡◌ {A = ℕ} 0 1 = cc in absurd (omega arith);
}

pub refusal_fits : (text : List ℕ) (e : Refusal) → Answers text (Err e) → Err e ≡ plan_of text → length (refused_line (told e)) ≤ 92 → Reports text Fits
refusal_fits text e law value short = of_refusal text Fits e law value (omega (arith, ap length (append-nil (refused_line (told e)))))
