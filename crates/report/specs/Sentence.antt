-- What the lines of a report say of permitted runs.
use Rattle.std.specs.Prelude.{◌≡◌, ℕ, ◌+◌, ◌*◌, ◌<◌, ◌≤◌, cond, List, [], ◌∷◌, length, ℤ, ◌≤ℤ◌, Some, ◌==◌, slice_index_or}
use Rattle.arith.specs.Sums.{part}
use Rattle.dynamics.specs.KeepOuts.{Enters}
use Rattle.dynamics.specs.Runs.{Run, state}
use Rattle.dynamics.specs.Values.{State}
use Rattle.plan.specs.Report.{step_line, clear_line, open_line}
use Rattle.report.specs.Report.{stack, new_stack, numbers_at, report_lines, bytes}
use Rattle.report.specs.Tasks.{Labelled, Task}

-- a text cut after each of its line ends, byte 10
abbrev pub longer : ℕ → List (List ℕ) → List (List ℕ)
longer b [] = (b ∷ []) ∷ []
longer b (l ∷ ls) = (b ∷ l) ∷ ls

abbrev pub cut : List ℕ → List (List ℕ)
cut [] = []
cut (b ∷ bs) = cond (b == 10) ((10 ∷ []) ∷ cut bs) (longer b (cut bs))

-- the keep lines follow the lines of the steps 0 to n
abbrev pub keep_line : Task → ℕ → List ℕ
keep_line t n = slice_index_or (report_lines t) (t.steps + 1 + n) []

pub record Sentence (t : Task) : Type 0 where
  -- the lines of a report are those into which its bytes are cut
  pub lines : cut (bytes (report_lines t)) ≡ report_lines t
  -- where the line of a keep-out says clear, no permitted run of the plan enters it at any step from 0
  -- to the plan's steps
  pub clear : (n : ℕ) (k : Labelled) → n < length t.keeps → k ≡ slice_index_or t.keeps n k → keep_line t n ≡ clear_line k.label
      → (xs : List State) → Run t.model t.start xs → (j : ℕ) → j ≤ t.steps → Enters k.keep_out xs j → ⊥
  -- where it says open since a step, none enters it at an earlier step
  pub open_since : (n : ℕ) (k : Labelled) (since : ℕ) → since ≤ 256 → n < length t.keeps → k ≡ slice_index_or t.keeps n k → keep_line t n ≡ open_line k.label since
      → (xs : List State) → Run t.model t.start xs → (j : ℕ) → j < since → Enters k.keep_out xs j → ⊥
  -- the line of a step that gives numbers gives for each part a least and a greatest one, between which
  -- the state of every permitted run lies at that step
  pub encloses : (k : ℕ) → k ≤ t.steps → (numbers : List ℤ) → numbers_at stack new_stack t k ≡ Some numbers
      → (slice_index_or (report_lines t) k [] ≡ step_line k numbers)
      × ((xs : List State) → Run t.model t.start xs → k < length xs → (i : ℕ) → i < 4 → (part numbers (2 * i) ≤ℤ state xs k i) × (state xs k i ≤ℤ part numbers (2 * i + 1)))
