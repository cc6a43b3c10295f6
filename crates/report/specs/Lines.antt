-- The lines of a report: of a step, and of a keep-out.
use Rattle.std.specs.Prelude.{ℕ, List, [], ◌∷◌, ℤ, neg_ℤ, Some, None, Option}
use Rattle.plan.specs.Report.{step_line, unbounded_line, clear_line, open_line}
use Rattle.tube.specs.declared.finding.Finding.{Finding}
use Rattle.tube.specs.declared.finding.Finding.TheVariants.{Clear, Open}

-- minus the bound on a negative axis and the bound on the positive one, in front of the numbers of
-- the later parts; absent if one of them is
abbrev pub in_front : Option ℤ → Option ℤ → Option (List ℤ) → Option (List ℤ)
in_front None high later = None
in_front (Some low) None later = None
in_front (Some low) (Some high) None = None
in_front (Some low) (Some high) (Some later) = Some (neg_ℤ low ∷ high ∷ later)

-- the eight numbers of a step, by the bound b on each signed axis
abbrev pub ends : (ℕ → Option ℤ) → Option (List ℤ)
ends b = in_front (b 1) (b 0) (in_front (b 3) (b 2) (in_front (b 5) (b 4) (in_front (b 7) (b 6) (Some []))))

-- the line of step k
abbrev pub step_text : ℕ → Option (List ℤ) → List ℕ
step_text k None = unbounded_line k
step_text k (Some numbers) = step_line k numbers

-- the line of a keep-out, by what is found of it
abbrev pub keep_text : List ℕ → Finding → List ℕ
keep_text label Clear = clear_line label
keep_text label (Open s) = open_line label s
