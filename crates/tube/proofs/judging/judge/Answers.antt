use Rattle.std.proofs.Common.{sym, refl, ap, ◌∙◌}
use Rattle.dynamics.specs.declared.direction.Direction.{Direction}
use Rattle.tube.specs.declared.table.KeepOutTable.{KeepOutTable}
use Rattle.tube.specs.Judging.{must_open, judged}
use Rattle.tube.proofs.Judged.{judged_open, judged-kept}
use Rattle.tube.proofs.judging.judge.Goals as goal
use Rattle.tube.proofs.judging.judge.Goals.{then-must_open, else-must_open}

pub loop-n-init : goal.loop-n-init
unfolding judged
loop-n-init g c = (refl, refl)

pub loop-n-preserved : goal.loop-n-preserved
loop-n-preserved g c =
    let b = λ (d : Direction). g.D.Domain.sense.bounded d (g.D.Domain.form c.args.domain.now) in
    let m = sym (c.must_open.ensures ∙ ap (must_open b) c.row-row.ensures) in
    elim c.if-must_open.branch [
      | then-must_open w ↦ (
        ap (λ (t : KeepOutTable). t.count) w.table-is ∙ w.open_row.ensures.count ∙ c.loop-n.invariant.0,
        ap (λ (t : KeepOutTable). t.rows) w.table-is ∙ w.open_row.ensures.rows ∙ judged_open b _ _ _ _ c.loop-n.invariant.1 (m ∙ w.if-must_open.true),
      )
      | else-must_open w ↦ (
        ap (λ (t : KeepOutTable). t.count) w.table-is ∙ c.loop-n.invariant.0,
        ap (λ (t : KeepOutTable). t.rows) w.table-is ∙ judged-kept b _ _ _ _ c.loop-n.invariant.1 (m ∙ w.if-must_open.false),
      )
    ]
