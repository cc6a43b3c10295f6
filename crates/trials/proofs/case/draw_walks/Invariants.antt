use Rattle.std.proofs.Common.{◌≡◌, vec_items, vec_len}
use Rattle.trials.specs.Permitted.{AllPermitted}
use Rattle.trials.proofs.case.draw_walks.Given as goal

abbrev pub invariant-loop-n : goal.invariant-loop-n
invariant-loop-n l = (vec_len l.walks ≡ l.n) × AllPermitted l.model l.start (vec_items l.walks)
