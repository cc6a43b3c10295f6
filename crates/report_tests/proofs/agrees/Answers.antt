use Rattle.std.proofs.Common.{◌≡◌, ℕ, ◌-◌, List, [], ◌∷◌, length, take, drop, Ok, sym, ap, ◌∙◌, arith}
use Rattle.std.proofs.lemmas.Slice.Eq.{slice_eq-Decides}
use Rattle.std.proofs.lemmas.List.{take_at}
use Rattle.plan.specs.Report.{told, refused_line}
use Rattle.report.specs.Pages.{Printed, Holds}
use Rattle.report.specs.Report.{bytes, report_lines}
use Rattle.report.specs.Reports.{Reports}
use Rattle.report.specs.Tasks.{task}
use Rattle.report_tests.proofs.agrees.Goals as goal
use Rattle.std.proofs.lemmas.Bool.Decides.{Decides-eqb}

-- the bytes that a report put are those that it was compared with
compared : (text page page' expected : List ℕ) (n : ℕ) → take (n - 0) page' ≡ expected → Reports text (λ W lines. Printed W lines page page' (Ok n)) → Reports text (λ W lines. bytes lines ≡ expected)
compared text page page' expected n e r = record {
  accepted = λ s h. one (report_lines (task s h.sound)) (r.accepted s h).0 (r.accepted s h).2;
  refused = λ q h. one (refused_line (told q) ∷ []) (r.refused q h).0 (r.refused q h).2;
}
  where
    one : (lines : List (List ℕ)) → n ≡ length (bytes lines) → Holds lines page page' → bytes lines ≡ expected
    one lines q p =
        let z : length (bytes lines) ≡ n - 0 = omega (arith, q) in
        sym (take_at (bytes lines) (drop (length (bytes lines)) page) (n - 0) z) ∙ ap (take (n - 0)) (sym p) ∙ e

pub returns-in-Ok : goal.returns-in-Ok
returns-in-Ok c h = compared c.args.text.now _ c.report.new.page c.args.expected.now c.in-Ok.n ((slice_eq-Decides Decides-eqb _ _ _ c.eq.ensures).0 h) c.in-Ok.ensures.printed
