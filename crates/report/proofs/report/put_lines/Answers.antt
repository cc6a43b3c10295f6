use Rattle.std.proofs.Common.{ℕ, ◌+◌, ◌*◌, List, drop, Ok, ◌∙◌, subst}
use Rattle.std.proofs.lemmas.List.{take_rest}
use Rattle.std.proofs.lemmas.Result.{err_from_is_err_and}
use Rattle.tube.specs.declared.call.Reply.{Reply}
use Rattle.plan.specs.Keeps.{kept_list}
use Rattle.report.specs.Pages.{PutsAll}
use Rattle.report.specs.Replies.{told_steps, told_keeps}
use Rattle.report.proofs.Putting.{stopped_first, puts_then}
use Rattle.report.proofs.report.put_lines.Goals as goal

pub returns-in_err-put_steps : goal.returns-in_err-put_steps
returns-in_err-put_steps c =
    let p = err_from_is_err_and c.from_residual.result c.from_residual.ensures.1 in
    let ks = kept_list c.args.plan.now.keeps in
    let rs = c.args.answers.now in
    rw p.1
    record {
      lent = c.in_err-put_steps.ensures.lent;
      lines = stopped_first (told_steps rs c.args.plan.now.steps.count) (told_keeps c.args.text.now ks (drop (9 * c.args.plan.now.steps.count + 8) rs)) _ _ _ _
          (let e = c.count-steps.ensures.value in rw e at c.in_err-put_steps.ensures.lines);
    }

pub returns : goal.returns
returns c =
    let ks = kept_list c.args.plan.now.keeps in
    let rs = c.args.answers.now in
    let n = c.args.plan.now.steps.count in
    let e = c.count-steps.ensures.value in
    record {
      lent = c.put_keeps.ensures.lent ∙ c.in_ok-put_steps.ensures.lent;
      lines = puts_then (told_steps rs n) (told_keeps c.args.text.now ks (drop (9 * n + 8) rs)) c.args.out.now c.put_steps.new.out c.put_keeps.new.out c.put_keeps.result
          (subst (λ (k : ℕ). PutsAll (told_steps rs k) c.args.out.now c.put_steps.new.out (Ok c.in_ok-put_steps.field-0)) e c.in_ok-put_steps.ensures.lines)
          (subst (λ (k : ℕ). PutsAll (told_keeps c.args.text.now ks (drop (9 * k + 8) rs)) c.put_steps.new.out c.put_keeps.new.out c.put_keeps.result) e
          (subst (λ (found : List Reply). PutsAll (told_keeps c.args.text.now ks found) c.put_steps.new.out c.put_keeps.new.out c.put_keeps.result) (take_rest rs (9 * c.count-steps.result + 8)) c.put_keeps.ensures.lines));
    }
