-- Which record a line is: its kind, and the fields after its name.
use Rattle.std.specs.Prelude.{ℕ, cond, List, [], ◌∷◌, length, Ok, Err, codes, Result, ◌==◌}
use Rattle.std.specs.Str.{bytes_eq}
use Rattle.plan.specs.declared.faults.LineFault.{LineFault}
use Rattle.plan.specs.declared.faults.LineFault.TheVariants.{Name, Crowded, Count}
use Rattle.plan.specs.declared.record.Kind.{Kind}
use Rattle.plan.specs.declared.record.Kind.TheVariants as kinds
use Rattle.plan.specs.declared.record.Expected.{Expected}
use Rattle.plan.specs.declared.record.Expected.TheVariants.{Row, Gust, Start, KeepOrSteps, OnlySteps}
use Rattle.plan.specs.declared.record.Record.{Record}
use Rattle.plan.specs.declared.record.Record.TheVariants as records
use Rattle.plan.specs.Cuts.{fields_of}
use Rattle.plan.specs.Readings.{bind}

-- a record's kind and the fields after its name
abbrev pub Fielded : Type 0
Fielded = Kind × List (List ℕ)

abbrev pub fielded : Record → Fielded
fielded (records.Row index e) = (kinds.Row, index.now ∷ e.a.now ∷ e.b.now ∷ e.c.now ∷ e.d.now ∷ [])
fielded (records.Gust index e centre radius) = (kinds.Gust, index.now ∷ e.a.now ∷ e.b.now ∷ e.c.now ∷ e.d.now ∷ centre.now ∷ radius.now ∷ [])
fielded (records.Start index centre radius) = (kinds.Start, index.now ∷ centre.now ∷ radius.now ∷ [])
fielded (records.Keep label e threshold) = (kinds.Keep, label.now ∷ e.a.now ∷ e.b.now ∷ e.c.now ∷ e.d.now ∷ threshold.now ∷ [])
fielded (records.Steps count) = (kinds.Steps, count.now ∷ [])

-- the kind that stands where one word is expected
abbrev pub only : List ℕ → Kind → List ℕ → Result Kind LineFault
only word kind name = cond (bytes_eq name word) (Ok kind) (Err Name)

-- the kind that a first field names, which is to be an expected one; with sixteen keep-outs read, one more is a fault of its own
abbrev pub kind_of : Expected → List ℕ → Result Kind LineFault
kind_of Row name = only (codes "row") kinds.Row name
kind_of Gust name = only (codes "gust") kinds.Gust name
kind_of Start name = only (codes "start") kinds.Start name
kind_of KeepOrSteps name = cond (bytes_eq name (codes "keep")) (Ok kinds.Keep) (only (codes "steps") kinds.Steps name)
kind_of OnlySteps name = cond (bytes_eq name (codes "keep")) (Err Crowded) (only (codes "steps") kinds.Steps name)

-- how many fields follow the name
abbrev pub width : Kind → ℕ
width kinds.Row = 5
width kinds.Gust = 7
width kinds.Start = 3
width kinds.Keep = 6
width kinds.Steps = 1

abbrev pub counted : List (List ℕ) → Kind → Result Fielded LineFault
counted fs kind = cond (length fs == width kind) (Ok (kind, fs)) (Err Count)

-- the first field names the record, the others are counted; no line is without a first field
abbrev pub named : Expected → List (List ℕ) → Result Fielded LineFault
named expected [] = Err Count
named expected (name ∷ fs) = bind (kind_of expected name) (counted fs)

-- the record that a line is
abbrev pub record_of : Expected → List ℕ → Result Fielded LineFault
record_of expected line = named expected (fields_of line)
