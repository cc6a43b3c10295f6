-- What refused calls tell: a number, and a text.
use Rattle.std.specs.Prelude.{ℕ, List, codes}
use Rattle.tube.specs.declared.fault.Fault.{Fault}
use Rattle.tube.specs.declared.fault.Fault.TheVariants.{WatchLimit, StepLimit, NoKeepOut}

-- 11: sixteen stand; 12: 256 taken; 13: number not below the count
abbrev pub fault_number : Fault → ℕ
fault_number WatchLimit = 11
fault_number StepLimit = 12
fault_number NoKeepOut = 13

abbrev pub fault_text : Fault → List ℕ
fault_text WatchLimit = codes "sixteen keep-outs are watched"
fault_text StepLimit = codes "256 steps were taken"
fault_text NoKeepOut = codes "no keep-out has that number"
