-- The lines of a report, and how a line goes into a buffer.
use Rattle.std.specs.Prelude.{◌≡◌, ℕ, ◌+◌, ◌<◌, ◌≤◌, List, [], ◌∷◌, ◌++◌, map, length, take, drop, ℤ, Ok, Err, codes, decimal, Result}
use Rattle.std.specs.Fmt.{signed_decimal}
use Rattle.plan.specs.declared.faults.FieldFault.TheVariants.{Number, Label, Range}
use Rattle.plan.specs.declared.faults.LineFault.TheVariants.{NoEnd, Name, Crowded, Count, Field, Sum}
use Rattle.plan.specs.declared.faults.Refusal.{Refusal}
use Rattle.plan.specs.declared.faults.Refusal.TheVariants.{TooLong, Line, Following}
use Rattle.plan.specs.declared.told.Told.{Told}
use Rattle.plan.specs.declared.writer.Full.{Full}
use Rattle.plan.specs.declared.writer.Writer.{Writer}
use Rattle.plan.specs.Grammar.{line}

abbrev pub telling : ℕ → ℕ → ℕ → ℕ → Told
telling number line field place = record { number = number; line = line; field = field; place = place }

-- what each refusal tells: number, line, field, place
abbrev pub told : Refusal → Told
told TooLong = telling 1 0 0 0
told (Line n NoEnd) = telling 9 n 0 0
told (Line n Name) = telling 2 n 1 0
told (Line n Crowded) = telling 10 n 1 0
told (Line n Count) = telling 3 n 0 0
told (Line n (Field (Number e))) = telling 4 n e.field e.offset
told (Line n (Field (Label f))) = telling 6 n f 0
told (Line n (Field (Range f))) = telling 5 n f 0
told (Line n (Sum f)) = telling 7 n f 0
told (Following n) = telling 8 n 0 0

-- the bounds of a step: for each part the least and the greatest number
abbrev pub step_line : ℕ → List ℤ → List ℕ
step_line k bounds = line (codes "step" ∷ (decimal k ∷ map signed_decimal bounds))

abbrev pub unbounded_line : ℕ → List ℕ
unbounded_line k = line (codes "step" ∷ decimal k ∷ codes "unbounded" ∷ [])

-- a keep-out that no run enters, and one that is open from a step on
abbrev pub clear_line : List ℕ → List ℕ
clear_line label = line (codes "keep" ∷ label ∷ codes "clear" ∷ [])

abbrev pub open_line : List ℕ → ℕ → List ℕ
open_line label k = line (codes "keep" ∷ label ∷ codes "open" ∷ decimal k ∷ [])

abbrev pub refused_line : Told → List ℕ
refused_line t = line (codes "refused" ∷ decimal t.number ∷ decimal t.line ∷ decimal t.field ∷ decimal t.place ∷ [])

-- bytes were put whole after the first `len` of a buffer: the old text, the bytes, and the rest as it was
pub record Added (buf : List ℕ) (len : ℕ) (more buf' : List ℕ) (len' : ℕ) : Type 0 where
  pub longer : len' ≡ len + length more
  pub within : len' ≤ length buf
  pub bytes : buf' ≡ take len buf ++ (more ++ drop len' buf)
  pub room : length buf' ≡ length buf
  pub text : take len' buf' ≡ take len buf ++ more

-- bytes did not fit: buffer and length are as they were
pub record KeptOut (buf : List ℕ) (len : ℕ) (more buf' : List ℕ) (len' : ℕ) : Type 0 where
  pub full : length buf < len + length more
  pub same : buf' ≡ buf
  pub still : len' ≡ len

-- a line is put whole, or not at all
abbrev pub Puts : List ℕ → Writer → Writer → Result (Unit {0}) Full → Type 0
Puts more before after (Ok u) = Added before.buf.now before.len more after.buf.now after.len
Puts more before after (Err e) = KeptOut before.buf.now before.len more after.buf.now after.len

-- the same, into the buffer that was lent
pub record PutsLine (more : List ℕ) (before after : Writer) (result : Result (Unit {0}) Full) : Type 0 where
  pub lent : after.buf.ghost_name ≡ before.buf.ghost_name
  pub line : Puts more before after result

-- the number of the refusal of a line that does not fit
abbrev pub full_number : ℕ
full_number = 14

-- what it says
abbrev pub full_text : List ℕ
full_text = codes "a line does not fit"
