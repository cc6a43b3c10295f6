-- What is told of a refusal, from what made it.
use Rattle.std.proofs.Common.{◌≡◌, ℕ, Some, None, Ok, Err, Option, Result, sym, MatchResult}
use Rattle.std.specs.Option.{option_map}
use Rattle.std.specs.Result.{result_err}
use Rattle.dynamics.specs.declared.refusal.Refusal.{Refusal}
use Rattle.trials.specs.Numbers.{told}

pub told_as : {A : Type 0} (r : Result A Refusal) (o : Option (ℕ × ℕ)) (made : A → Type 0) → ((a : A) → made a → o ≡ None)
    → MatchResult r made (λ e. o ≡ Some (told e)) → option_map told (result_err r) ≡ o
told_as (Ok a) o made none h = sym (none a h)
told_as (Err e) o made none h = sym h
