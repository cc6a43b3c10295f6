-- A plan as checked values: what is run, from where, for how long, and what is kept out of.
use Rattle.std.specs.Prelude.{ℕ, List, [], ◌∷◌, map}
use Rattle.dynamics.specs.declared.keep_out.KeepOut.{KeepOut}
use Rattle.dynamics.specs.declared.model.Model.{Model}
use Rattle.dynamics.specs.declared.start.Start.{Start}
use Rattle.plan.specs.declared.keep.Keep.{Keep}
use Rattle.plan.specs.declared.plan.Plan.{Plan}
use Rattle.plan.specs.Keeps.{Kept, spanned, kept_list}
use Rattle.plan.specs.Plans.{Sheet}
use Rattle.plan.specs.Spelling.{KeptSound, AllSound, Sound}

-- a keep-out with its label
pub record Labelled : Type 0 where
  pub label : List ℕ
  pub keep_out : KeepOut

pub record Task : Type 0 where
  pub model : Model
  pub start : Start
  pub keeps : List Labelled
  pub steps : ℕ

-- ---- the values of a plan that is given by plain numbers within their limits
abbrev pub labelled : (k : Kept) → KeptSound k → Labelled
labelled k h = record { label = k.label; keep_out = record { direction = record { entries = k.entries; limited = h.1 }; threshold = k.threshold; limited = h.2 } }

abbrev pub all_labelled : (ks : List Kept) → AllSound ks → List Labelled
all_labelled [] h = []
all_labelled (k ∷ ks) h = labelled k h.0 ∷ all_labelled ks h.1

abbrev pub task : (s : Sheet) → Sound s → Task
task s h = record {
  model = record { matrix = s.loop.matrix; gains = s.loop.gains; centres = s.loop.centres; radii = s.loop.radii; entered = h.model.0; gained = h.model.1; calm = h.model.2 };
  start = record { centres = s.begin.centres; radii = s.begin.radii; limited = h.start.2 };
  keeps = all_labelled s.keeps h.keeps;
  steps = s.steps;
}

-- ---- the same of a plan that was read from a text
abbrev pub labelled_in : List ℕ → Keep → Labelled
labelled_in text k = record { label = spanned text k.label; keep_out = k.keep_out }

abbrev pub plan_task : List ℕ → Plan → Task
plan_task text p = record { model = p.model; start = p.start; keeps = map (labelled_in text) (kept_list p.keeps); steps = p.steps.count }
