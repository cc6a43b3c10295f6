-- A keep-out table as its count and its rows, and what watches make of it.
use Rattle.std.specs.Prelude.{◌≡◌, ℕ, ◌+◌, List, slice_set}
use Rattle.dynamics.specs.declared.keep_out.KeepOut.{KeepOut}
use Rattle.tube.specs.declared.opened.Opened.{Opened}
use Rattle.tube.specs.declared.row.Row.{Row}
use Rattle.tube.specs.declared.table.KeepOutTable.{KeepOutTable}
use Rattle.tube.specs.Rows.{no_rows, row_of}

-- the first `count` rows are watched
pub record Table : Type 0 where
  pub count : ℕ
  pub rows : List Row

abbrev pub table_of : KeepOutTable → Table
table_of t = record { count = t.count; rows = t.rows }

-- a new table
abbrev pub empty_table : Table
empty_table = record { count = 0; rows = no_rows }

-- a table with one keep-out more
abbrev pub with_keep_out : Table → KeepOut → Table
with_keep_out t k = record { count = t.count + 1; rows = slice_set t.rows t.count (row_of k) }

-- a watch changes no more of a tube than its table
pub record ChangesOnlyTable {D : Type 0} (old new : Opened D) : Type 0 where
  pub model : new.model ≡ old.model
  pub start : new.start ≡ old.start
  pub domain : new.domain ≡ old.domain
