-- What a fault of a report says.
use Rattle.std.specs.Prelude.{ℕ, List, codes}
use Rattle.report.specs.declared.fault.Fault.{Fault}
use Rattle.report.specs.declared.fault.Fault.TheVariants as fault

abbrev pub fault_text : Fault → List ℕ
fault_text fault.Memory = codes "out of memory"
fault_text (fault.Line e) = codes "a line does not fit the page"
