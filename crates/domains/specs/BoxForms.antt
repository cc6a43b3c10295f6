-- The form of an interval box of the code.
use Rattle.std.specs.Prelude.{Some, None, Option}
use Rattle.domains.specs.declared.limits.Limits.{Limits}
use Rattle.domains.specs.Box.{Form}

abbrev pub limits_of : Option Limits → Form
limits_of None = None
limits_of (Some l) = Some l.upper
