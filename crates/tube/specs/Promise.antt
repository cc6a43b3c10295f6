-- What a tube promises of permitted runs, after its launch and after each later call.
use Rattle.std.specs.Prelude.{◌≡◌, ℕ, zero, suc, ◌<◌, ◌≤◌, true, false, List, length, ℤ, ◌≤ℤ◌, Option, slice_index_or}
use Rattle.arith.specs.Products.{dot}
use Rattle.dynamics.specs.declared.direction.Direction.{Direction}
use Rattle.dynamics.specs.declared.keep_out.KeepOut.{KeepOut}
use Rattle.dynamics.specs.declared.model.Model.{Model}
use Rattle.dynamics.specs.declared.start.Start.{Start}
use Rattle.dynamics.specs.KeepOuts.{Enters}
use Rattle.dynamics.specs.Runs.{Run, state}
use Rattle.dynamics.specs.Values.{State, along}
use Rattle.domains.specs.Meaning.{Meaning, Answer}
use Rattle.tube.specs.declared.finding.Finding.{Finding}
use Rattle.tube.specs.declared.finding.Finding.TheVariants.{Clear, Open}
use Rattle.tube.specs.Flights.{Flight}
use Rattle.tube.specs.Judging.{reaches}
use Rattle.tube.specs.Rows.{blank}

-- the domain's form at step k: filled with the start, and k times advanced
unfoldable pub form_at : {Form : Type 0} → Meaning Form → Model → Start → Form → ℕ → Form
form_at d m s f zero = d.filled s f
form_at d m s f (suc k) = d.advanced m (form_at d m s f k)

-- a finding is the one that judging gives from the bounds b at the steps 0 to k: open at the first
-- step whose bound is absent or at least the threshold, else clear
abbrev pub JudgedBy : (ℕ → Option ℤ) → ℤ → ℕ → Finding → Type 0
JudgedBy b t k Clear = (j : ℕ) → j ≤ k → reaches t (b j) ≡ false
JudgedBy b t k (Open s) = (s ≤ k) × (reaches t (b s) ≡ true) × ((j : ℕ) → j < s → reaches t (b j) ≡ false)

-- of one condition of a tube that watches the keep-outs ks, from the form f of its domain before launch
pub record Kept {Form : Type 0} (d : Meaning Form) (m : Model) (s : Start) (f : Form) (ks : List KeepOut) (t : Flight Form) : Type 0 where
  -- its domain's form is the one of its step
  pub formed : t.form ≡ form_at d m s f t.steps
  -- the newest state of every permitted run with as many steps is held
  pub held : (xs : List State) → Run m s xs → length xs ≡ suc t.steps → d.holds t.form (state xs t.steps)
  -- no present bound is below such a state
  pub bounds : (xs : List State) → Run m s xs → length xs ≡ suc t.steps → (l : Direction) → Answer (d.bounded l t.form) (λ b. dot (along l) (state xs t.steps) ≤ℤ b)
  -- each finding is the one that judging gives
  pub judged : (n : ℕ) (k : KeepOut) → n < t.table.count → k ≡ slice_index_or ks n k → JudgedBy (λ j. d.bounded k.direction (form_at d m s f j)) k.threshold t.steps (slice_index_or t.table.rows n blank).finding
  -- a keep-out found clear is entered by no permitted run at any step so far
  pub clear : (n : ℕ) (k : KeepOut) → n < t.table.count → k ≡ slice_index_or ks n k → (slice_index_or t.table.rows n blank).finding ≡ Clear
      → (xs : List State) → Run m s xs → (j : ℕ) → j ≤ t.steps → Enters k xs j → ⊥
  -- one found open at a step is entered by none at an earlier step
  pub open_since : (n : ℕ) (k : KeepOut) (since : ℕ) → n < t.table.count → k ≡ slice_index_or ks n k → (slice_index_or t.table.rows n blank).finding ≡ Open since
      → (xs : List State) → Run m s xs → (j : ℕ) → j < since → Enters k xs j → ⊥
