-- How near a tube over the zonotope alone stays to the exact support number.
use Rattle.std.specs.Prelude.{List}
use Rattle.dynamics.specs.declared.keep_out.KeepOut.{KeepOut}
use Rattle.dynamics.specs.declared.model.Model.{Model}
use Rattle.dynamics.specs.declared.start.Start.{Start}
use Rattle.zonotope.specs.Domain.{Form, zonotope}
use Rattle.zonotope.specs.Tight as exact
use Rattle.tube.specs.declared.call.Call.{Call}
use Rattle.tube.specs.Calls.{begun, after}

-- after every list of watches and calls, with the spread present: each bound times 4096^(steps
-- taken) is at least the exact support number of those steps, and exceeds it by at most the
-- spread's allowance times that power, in every whole direction
abbrev pub TubeTight : Type 0
TubeTight = (m : Model) (s : Start) (f : Form) (ks : List KeepOut) (cs : List Call)
    → exact.Present (after zonotope m (begun zonotope s f ks) cs).form (exact.Tight m s (after zonotope m (begun zonotope s f ks) cs).steps)
