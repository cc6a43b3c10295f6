use Rattle.std.proofs.Common.{◌≤◌, length, Ok, Err, ap, ◌∙◌, subst}
use Rattle.std.proofs.lemmas.Result.{err_from_is_err_and}
use Rattle.domains.specs.BoxForms.{limits_of}
use Rattle.domains.specs.declared.interval_box.IntervalBox.{IntervalBox}
use Rattle.zonotope.specs.Forms.{form_of}
use Rattle.zonotope.specs.declared.zonotope.Zonotope.{Zonotope}
use Rattle.plan.specs.Report.{Puts, told, refused_line}
use Rattle.plan.specs.Spelling.{Answers}
use Rattle.report.specs.declared.fault.Fault.TheVariants.{Line}
use Rattle.report.specs.Pages.{PutsTask}
use Rattle.report.specs.Report.{Stack, stack, lines_over}
use Rattle.report.specs.Tasks.{plan_task}
use Rattle.report.proofs.Printing.{one_line}
use Rattle.report.proofs.Texts.{of_plan, of_refusal, plan_fits, refusal_fits}
use Rattle.report.proofs.report.put_report.Goals as goal

pub returns-in_err-put_refusal-in-Err : goal.returns-in_err-put_refusal-in-Err
returns-in_err-put_refusal-in-Err c =
    let text = c.args.text.now in
    let e = c.in-Err.refusal in
    let i = c.in-Err.ensures in
    let p = err_from_is_err_and c.from_residual.result c.from_residual.ensures.1 in
    let line = subst (λ t. Puts (refused_line t) c.args.out.now c.put_refusal.new.out (Err c.in_err-put_refusal-in-Err.field-0.0)) c.told.ensures c.in_err-put_refusal-in-Err.ensures.put.line in
    rw (p.1, p.2)
    record {
      lent = c.in_err-put_refusal-in-Err.ensures.put.lent;
      lines = of_refusal text (λ W lines. PutsTask W lines c.args.out.now c.put_refusal.new.out (Err (Line c.in_err-put_refusal-in-Err.field-0.0))) e i.law i.value (one_line ⊥ (refused_line (told e)) c.args.out.now c.put_refusal.new.out (Err c.in_err-put_refusal-in-Err.field-0.0) c.requires.room line);
      short = refusal_fits text e i.law i.value (subst (λ t. length (refused_line t) ≤ 92) c.told.ensures c.in_err-put_refusal-in-Err.ensures.short);
      law = subst (Answers text) i.value i.law;
    }

pub returns-in_ok-put_refusal-in-Err : goal.returns-in_ok-put_refusal-in-Err
returns-in_ok-put_refusal-in-Err c =
    let text = c.args.text.now in
    let e = c.in-Err.refusal in
    let i = c.in-Err.ensures in
    let u = c.in_ok-put_refusal-in-Err.field-0 in
    let line = subst (λ t. Puts (refused_line t) c.args.out.now c.put_refusal.new.out (Ok u)) c.told.ensures c.in_ok-put_refusal-in-Err.ensures.put.line in
    record {
      lent = c.in_ok-put_refusal-in-Err.ensures.put.lent;
      lines = of_refusal text (λ W lines. PutsTask W lines c.args.out.now c.put_refusal.new.out (Ok u)) e i.law i.value (one_line ⊥ (refused_line (told e)) c.args.out.now c.put_refusal.new.out (Ok u) c.requires.room line);
      short = refusal_fits text e i.law i.value (subst (λ t. length (refused_line t) ≤ 92) c.told.ensures c.in_ok-put_refusal-in-Err.ensures.short);
      law = subst (Answers text) i.value i.law;
    }

pub returns-in-Ok : goal.returns-in-Ok
returns-in-Ok c =
    let text = c.args.text.now in
    let plan = c.in-Ok.plan in
    let i = c.in-Ok.ensures in
    let left = ap (λ (z : Zonotope). form_of z.stored) c.new-domain.ensures.left ∙ ap form_of c.new.ensures in
    let right = ap (λ (b : IntervalBox). limits_of b.limits) c.new-domain.ensures.right ∙ ap limits_of c.new-in-Ok.ensures in
    record {
      lent = c.put_plan.ensures.lent;
      lines = of_plan text (λ W lines. PutsTask W lines c.args.out.now c.put_plan.new.out c.put_plan.result) plan i.law i.value
          (subst (λ (f : Stack). PutsTask (Unit {0}) (lines_over stack f (plan_task text plan)) c.args.out.now c.put_plan.new.out c.put_plan.result) (λ k. (left k, right k)) c.put_plan.ensures.lines);
      short = plan_fits text plan i.law i.value;
      law = subst (Answers text) i.value i.law;
    }
