-- How a refusal reads.
use Rattle.std.specs.Prelude.{ℕ, List, ◌++◌, codes, decimal}
use Rattle.dynamics.specs.declared.refusal.Refusal.{Refusal}
use Rattle.dynamics.specs.declared.refusal.Refusal.TheVariants.{OutOfRange, TooLarge}

abbrev pub refusal_text : Refusal → List ℕ
refusal_text (OutOfRange p) = codes "number " ++ decimal p ++ codes " is out of range"
refusal_text (TooLarge p) = codes "number " ++ decimal p ++ codes " is too large for its centre"
