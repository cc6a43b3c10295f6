use Rattle.std.proofs.Common.{ℕ, List, ◌++◌, sym, ap, ◌∙◌}
use Rattle.std.proofs.lemmas.List.{append-nil}
use Rattle.pointing.specs.Report.{later_text, reported}
use Rattle.pointing.proofs.Later.{later-none, later_all, put-more}
use Rattle.pointing.proofs.put_run.Goals as goal

pub loop-step-init : goal.loop-step-init
loop-step-init g c =
    ap (λ (t : List ℕ). reported c.put_step.new.out ++ t) (later_all g.D.Domain.sense c.args.model.now c.args.steps (g.D.Domain.form c.args.domain.now))

pub loop-step-preserved : goal.loop-step-preserved
loop-step-preserved g c =
    put-more g.D.Domain.sense c.args.model.now c.loop-step.step c.args.steps (g.D.Domain.form c.loop-step.domain) (g.D.Domain.form c.advance.new.self)
    (reported c.loop-step.out) (reported c.put_step-in-loop-step.new.out) _ c.loop-step-test.true c.advance.ensures c.in_ok-put_step-2.ensures.line.text c.loop-step.invariant

pub returns : goal.returns
returns g c =
    let sense = g.D.Domain.sense in
    let m = c.args.model.now in
    let n = c.args.steps in
    let k = c.loop-step.step in
    let f = g.D.Domain.form c.loop-step.domain in
    sym (append-nil (reported c.loop-step.out))
    ∙ ap (λ (t : List ℕ). reported c.loop-step.out ++ t) (sym (later-none sense m k n f c.loop-step-test.false))
    ∙ c.loop-step.invariant
    ∙ ap (λ (t : List ℕ). t ++ later_text sense m 0 n (g.D.Domain.form c.args.domain.now)) c.in_ok-put_step.ensures.line.text
