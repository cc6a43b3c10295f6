-- What stands on a page after the report of a text: that of the plan that the text spells, or the one
-- line of its refusal.
use Rattle.std.specs.Prelude.{◌≡◌, ℕ, List, [], ◌∷◌, Err}
use Rattle.plan.specs.declared.faults.Refusal.{Refusal}
use Rattle.plan.specs.Plans.{Sheet, plan_of}
use Rattle.plan.specs.Report.{told, refused_line}
use Rattle.plan.specs.Spelling.{Spells}
use Rattle.report.specs.Report.{report_lines}
use Rattle.report.specs.Tasks.{task}

-- of a text: what holds of the lines of its report, and of whether memory may be wanting
pub record Reports (text : List ℕ) (P : Type 0 → List (List ℕ) → Type 0) : Type 0 where
  pub accepted : (s : Sheet) (h : Spells text s) → P (Unit {0}) (report_lines (task s h.sound))
  pub refused : (e : Refusal) → plan_of text ≡ Err e → P ⊥ (refused_line (told e) ∷ [])
