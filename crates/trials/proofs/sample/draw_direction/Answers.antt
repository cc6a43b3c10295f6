use Rattle.std.proofs.Common.{ℕ, ◌^◌, ◌<◌, ◌≤◌, nat_abs, IfOk, Ok, Err, Result}
use Rattle.dynamics.specs.declared.direction.Direction.{Direction}
use Rattle.dynamics.specs.declared.refusal.Refusal.{Refusal}
use Rattle.dynamics.specs.Values.{along}
use Rattle.trials.proofs.sample.draw_direction.Goals as goal

limited : (r : Result Direction Refusal) → IfOk r (λ d. (i : ℕ) → i < 4 → nat_abs (along d i) ≤ 2 ^ 20)
limited (Ok d) = d.limited
limited (Err e) = tt

pub returns : goal.returns
returns c = limited c.new.result
