-- The rows of a keep-out table.
use Rattle.std.specs.Prelude.{ℕ, List, [], ◌∷◌, replicate, pos}
use Rattle.dynamics.specs.declared.keep_out.KeepOut.{KeepOut}
use Rattle.tube.specs.declared.finding.Finding.TheVariants.{Clear, Open}
use Rattle.tube.specs.declared.row.Row.{Row}

-- the row of a keep-out that is watched from now on
abbrev pub row_of : KeepOut → Row
row_of k = record { entries = k.direction.entries; threshold = k.threshold; finding = Clear }

-- the same keep-out, open since a step
abbrev pub opened : ℕ → Row → Row
opened s r = record { entries = r.entries; threshold = r.threshold; finding = Open s }

-- what stands past the end of a table
abbrev pub blank : Row
blank = record { entries = []; threshold = pos 0; finding = Clear }

-- the rows of a new table
abbrev pub no_rows : List Row
no_rows = replicate 16 (record { entries = pos 0 ∷ (pos 0 ∷ (pos 0 ∷ (pos 0 ∷ []))); threshold = pos 0; finding = Clear })
