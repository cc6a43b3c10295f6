use Rattle.std.proofs.Common.{◌≡◌, map, take, vec_items}
use Rattle.plan.specs.Keeps.{kept_list}
use Rattle.plan.specs.declared.keep.Keep.{Keep}
use Rattle.report.proofs.questions.keep_outs.Given as goal

abbrev pub invariant-loop-keep : goal.invariant-loop-keep
invariant-loop-keep l = vec_items l.list ≡ map (λ (k : Keep). k.keep_out) (take l.keep-index (kept_list l.keeps))
