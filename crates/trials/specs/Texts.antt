-- Stored texts, and what the reader tells of a text that it refuses.
use Rattle.std.specs.Prelude.{ℕ, zero, suc, List, [], ◌++◌, Some, None, Ok, Err, Option, Result, slice_index}
use Rattle.plan.specs.declared.faults.Refusal.{Refusal}
use Rattle.plan.specs.declared.told.Told.{Told}
use Rattle.plan.specs.Plans.{Sheet}
use Rattle.plan.specs.Report.{told}
use Rattle.trials.specs.declared.texts.TextCase.{TextCase}

-- what the refusal tells, if there is one
abbrev pub told_of : Result Sheet Refusal → Option Told
told_of (Ok s) = None
told_of (Err e) = Some (told e)

-- the same from the four numbers that are stored
abbrev pub stored : Option (List ℕ) → Option Told
stored None = None
stored (Some t) = Some (record { number = slice_index t 0; line = slice_index t 1; field = slice_index t 2; place = slice_index t 3 })

abbrev pub expected_of : TextCase → Option Told
expected_of c = stored c.told

-- a text so many times, each after those before
unfoldable pub repeated : ℕ → List ℕ → List ℕ
repeated zero t = []
repeated (suc n) t = repeated n t ++ t

-- the parts of a text in order
abbrev pub text_of : TextCase → List ℕ
text_of c = (((c.rows.now ++ c.gusts.now) ++ c.starts.now) ++ repeated c.times c.keep.now) ++ c.tail.now
