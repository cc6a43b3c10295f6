-- How a trouble reads.
use Rattle.std.specs.Prelude.{ℕ, List, ◌++◌, codes}
use Rattle.dynamics.specs.RefusalTexts.{refusal_text}
use Rattle.tube.specs.Faults.{fault_text}
use Rattle.trials.specs.declared.trouble.Trouble.{Trouble}
use Rattle.trials.specs.declared.trouble.Trouble.TheVariants.{Memory, Numbers, Call}

abbrev pub trouble_text : Trouble → List ℕ
trouble_text Memory = codes "no memory"
trouble_text (Numbers e) = codes "no plan: " ++ refusal_text e
trouble_text (Call e) = codes "a refused call: " ++ fault_text e
