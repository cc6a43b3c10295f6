-- The report of a plan: a line for each step, then a line for each keep-out.
use Rattle.std.specs.Prelude.{ℕ, ◌+◌, List, ◌++◌, map, ℤ, None, Option}
use Rattle.std.specs.List.{range_with_len, flat_map}
use Rattle.dynamics.specs.declared.direction.Direction.{Direction}
use Rattle.domains.specs.Axes.{axis}
use Rattle.domains.specs.Box as boxes
use Rattle.domains.specs.Meaning.{Meaning}
use Rattle.layers.specs.Product.{product}
use Rattle.zonotope.specs.Domain as zonotopes
use Rattle.tube.specs.declared.finding.Finding.{Finding}
use Rattle.tube.specs.Promise.{form_at}
use Rattle.report.specs.Lines.{ends, step_text, keep_text}
use Rattle.report.specs.Tasks.{Labelled, Task}
use Rattle.report.specs.Verdicts.{verdict}

module _ {Form : Type 0} (d : Meaning Form) (f : Form) (t : Task) where
  -- the bound that a domain of form f before its fill answers at step k in a direction
  abbrev pub bound_at : ℕ → Direction → Option ℤ
  bound_at k l = d.bounded l (form_at d t.model t.start f k)

  -- the eight numbers of step k, absent if one bound on a signed axis is
  abbrev pub numbers_at : ℕ → Option (List ℤ)
  numbers_at k = ends (λ a. bound_at k (axis a))

  -- what is found of a keep-out over all steps
  abbrev pub finding_of : Labelled → Finding
  finding_of k = verdict (λ j. bound_at j k.keep_out.direction) k.keep_out.threshold t.steps

  abbrev pub step_lines : List (List ℕ)
  step_lines = map (λ k. step_text k (numbers_at k)) (range_with_len 0 (t.steps + 1))

  abbrev pub keep_lines : List (List ℕ)
  keep_lines = map (λ k. keep_text k.label (finding_of k)) t.keeps

  abbrev pub lines_over : List (List ℕ)
  lines_over = step_lines ++ keep_lines

-- the domain of a report: the reduced product of zonotope and interval box, both new
abbrev pub Stack : Type 0
Stack = zonotopes.Form × boxes.Form

abbrev pub stack : Meaning Stack
stack = product zonotopes.zonotope boxes.box

abbrev pub new_stack : Stack
new_stack = (None, None)

-- the lines of a plan's report, and its bytes
abbrev pub report_lines : Task → List (List ℕ)
report_lines t = lines_over stack new_stack t

abbrev pub bytes : List (List ℕ) → List ℕ
bytes lines = flat_map (λ l. l) lines
