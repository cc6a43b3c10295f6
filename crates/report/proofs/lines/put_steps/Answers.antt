use Rattle.std.proofs.Common.{ℕ, List, refl, ◌∙◌, subst, arith}
use Rattle.std.proofs.lemmas.Result.{err_from_is_err_and}
use Rattle.plan.specs.Report.{Added, KeptOut}
use Rattle.report.specs.Replies.{told_steps}
use Rattle.report.proofs.Putting.{none-put, one-put, not_put, all_put}
use Rattle.report.proofs.Told.{small_bounds, steps_length, step_told}
use Rattle.report.proofs.lines.put_steps.Goals as goal

pub loop-step-init : goal.loop-step-init
loop-step-init c = (none-put _ _ c.requires.room, refl)

pub put_step-requires : goal.put_step-requires
put_step-requires c = small_bounds c.args.answers.now _ c.requires.limited c.bounds_at.result c.bounds_at.ensures

pub returns-in_err-put_step : goal.returns-in_err-put_step
returns-in_err-put_step c =
    let rs = c.args.answers.now in
    let k = c.loop-step.step in
    let n = c.args.steps in
    let e = step_told rs n k c.loop-step-test.true c.bounds_at.result c.bounds_at.ensures in
    let q = subst (λ (t : List ℕ). KeptOut c.loop-step.out.buf.now c.loop-step.out.len t c.put_step.new.out.buf.now c.put_step.new.out.len) e c.in_err-put_step.ensures.line in
    let p = err_from_is_err_and c.from_residual.result c.from_residual.ensures.1 in
    rw p.1
    record {
      lent = c.in_err-put_step.ensures.lent ∙ c.loop-step.invariant.1;
      lines = not_put (told_steps rs n) _ _ k _ _ c.loop-step.invariant.0 _ _ (omega (arith, steps_length rs n, c.loop-step-test.true)) q;
    }

pub loop-step-preserved : goal.loop-step-preserved
loop-step-preserved c =
    let rs = c.args.answers.now in
    let k = c.loop-step.step in
    let n = c.args.steps in
    let e = step_told rs n k c.loop-step-test.true c.bounds_at.result c.bounds_at.ensures in
    let q = subst (λ (t : List ℕ). Added c.loop-step.out.buf.now c.loop-step.out.len t c.put_step.new.out.buf.now c.put_step.new.out.len) e c.in_ok-put_step.ensures.line in (
      one-put (told_steps rs n) _ _ k _ _ c.loop-step.invariant.0 _ _ (omega (arith, steps_length rs n, c.loop-step-test.true)) q,
      c.in_ok-put_step.ensures.lent ∙ c.loop-step.invariant.1,
    )

pub returns : goal.returns
returns c =
    let rs = c.args.answers.now in
    let n = c.args.steps in
    record {
      lent = c.loop-step.invariant.1;
      lines = all_put (told_steps rs n) _ _ c.loop-step.step _ _ (omega (arith, steps_length rs n, c.loop-step-test.false)) c.loop-step.invariant.0;
    }
