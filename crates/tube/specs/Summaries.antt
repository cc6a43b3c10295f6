-- What a finished tube tells.
use Rattle.std.specs.Prelude.{◌-◌}
use Rattle.tube.specs.declared.summary.Summary.{Summary}
use Rattle.tube.specs.Flights.{Flight, clear_count}

-- the steps taken, how many keep-outs are clear, and how many open
abbrev pub summary_of : {Form : Type 0} → Flight Form → Summary
summary_of t = record { steps = t.steps; clear = clear_count t.table.count t.table.rows; «open» = t.table.count - clear_count t.table.count t.table.rows }
