use Rattle.std.proofs.Common.{◌^◌, ◌≤◌, nat_abs, IfOk, Ok, Err, Result}
use Rattle.dynamics.specs.declared.keep_out.KeepOut.{KeepOut}
use Rattle.dynamics.specs.declared.refusal.Refusal.{Refusal}
use Rattle.trials.proofs.sample.draw_keep_out.Goals as goal

limited : (r : Result KeepOut Refusal) → IfOk r (λ k. nat_abs k.threshold ≤ 2 ^ 52)
limited (Ok k) = k.limited
limited (Err e) = tt

pub returns : goal.returns
returns c = limited c.new.result
