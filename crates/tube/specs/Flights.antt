-- A tube's condition, and what each call makes of it.
use Rattle.std.specs.Prelude.{ℕ, zero, suc, ◌+◌, cond, List, slice_index_or}
use Rattle.dynamics.specs.declared.model.Model.{Model}
use Rattle.dynamics.specs.declared.start.Start.{Start}
use Rattle.domains.specs.Meaning.{Meaning}
use Rattle.tube.specs.declared.launched.Launched.{Launched}
use Rattle.tube.specs.declared.row.Row.{Row}
use Rattle.tube.specs.Judging.{judged, is_clear}
use Rattle.tube.specs.Rows.{blank}
use Rattle.tube.specs.Tables.{Table, table_of}

-- the domain's form, the steps taken, and the table
pub record Flight (Form : Type 0) : Type 0 where
  pub form : Form
  pub steps : ℕ
  pub table : Table

-- that of a tube over a domain whose form is read by `form`
abbrev pub flight_of : {D Form : Type 0} → (D → Form) → Launched D → Flight Form
flight_of form t = record { form = form t.domain; steps = t.steps; table = table_of t.table }

-- the form g at step k, with every watched keep-out judged
abbrev pub judged_at : {Form : Type 0} → Meaning Form → Form → ℕ → Table → Flight Form
judged_at d g k t = record { form = g; steps = k; table = record { count = t.count; rows = judged (λ l. d.bounded l g) k t.count t.rows } }

-- launch: the domain is filled, and step 0 judged
abbrev pub launched : {Form : Type 0} → Meaning Form → Start → Form → Table → Flight Form
launched d s f t = judged_at d (d.filled s f) 0 t

-- step: the domain is advanced, and the new step judged
abbrev pub stepped : {Form : Type 0} → Meaning Form → Model → Flight Form → Flight Form
stepped d m t = judged_at d (d.advanced m t.form) (t.steps + 1) t.table

-- how many of the first n rows are clear
unfoldable pub clear_count : ℕ → List Row → ℕ
clear_count zero rows = 0
clear_count (suc n) rows = cond (is_clear (slice_index_or rows n blank).finding) (clear_count n rows + 1) (clear_count n rows)
