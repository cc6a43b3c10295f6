-- What a page holds after a report was put on it.
use Rattle.std.specs.Prelude.{◌≡◌, ℕ, ◌+◌, ◌<◌, ◌≤◌, List, [], ◌++◌, length, take, drop, Ok, Err, Result, slice_index_or}
use Rattle.plan.specs.declared.writer.Full.{Full}
use Rattle.plan.specs.declared.writer.Writer.{Writer}
use Rattle.plan.specs.Report.{Added}
use Rattle.report.specs.declared.fault.Fault.{Fault}
use Rattle.report.specs.declared.fault.Fault.TheVariants as fault
use Rattle.report.specs.Report.{bytes}

-- what a writer has put lies in its buffer
abbrev pub IsWithin : Writer → Type 0
IsWithin w = w.len ≤ length w.buf.now

-- the writer has the buffer that it had
abbrev pub SameBuffer : Writer → Writer → Type 0
SameBuffer old new = new.buf.ghost_name ≡ old.buf.ghost_name

-- lines were put after the first `len` bytes of a buffer, as far as they fit: all of them, or those
-- before the first that does not fit
pub record Stopped (lines : List (List ℕ)) (buf : List ℕ) (len : ℕ) (buf' : List ℕ) (len' : ℕ) : Type 0 where
  pub put : ℕ
  pub some : put < length lines
  pub whole : Added buf len (bytes (take put lines)) buf' len'
  pub full : length buf < len' + length (slice_index_or lines put [])

abbrev pub PutsAll : List (List ℕ) → Writer → Writer → Result (Unit {0}) Full → Type 0
PutsAll lines before after (Ok u) = Added before.buf.now before.len (bytes lines) after.buf.now after.len
PutsAll lines before after (Err e) = Stopped lines before.buf.now before.len after.buf.now after.len

-- the same, where memory may be wanting before anything was put; W says when
abbrev pub PutsTask : Type 0 → List (List ℕ) → Writer → Writer → Result (Unit {0}) Fault → Type 0
PutsTask W lines before after (Ok u) = PutsAll lines before after (Ok u)
PutsTask W lines before after (Err (fault.Line e)) = PutsAll lines before after (Err e)
PutsTask W lines before after (Err fault.Memory) = W × (after.buf.now ≡ before.buf.now) × (after.len ≡ before.len)

-- each of the two, into the buffer that was lent
pub record PutsLines (all : List (List ℕ)) (before after : Writer) (result : Result (Unit {0}) Full) : Type 0 where
  pub lent : SameBuffer before after
  pub lines : PutsAll all before after result

pub record PutsReport (W : Type 0) (all : List (List ℕ)) (before after : Writer) (result : Result (Unit {0}) Fault) : Type 0 where
  pub lent : SameBuffer before after
  pub lines : PutsTask W all before after result

-- a page that holds lines: their bytes from its start on, and the rest as it was
abbrev pub Holds : List (List ℕ) → List ℕ → List ℕ → Type 0
Holds lines page page' = page' ≡ bytes lines ++ drop (length (bytes lines)) page

-- a report was put on a page: all of it, with its length as the answer; or the lines before the first
-- that does not fit; or nothing, for want of memory
abbrev pub Printed : Type 0 → List (List ℕ) → List ℕ → List ℕ → Result ℕ Fault → Type 0
Printed W lines page page' (Ok n) = (n ≡ length (bytes lines)) × (n ≤ length page) × Holds lines page page'
Printed W lines page page' (Err (fault.Line e)) = (k : ℕ) × (k < length lines) × (length page < length (bytes (take k lines)) + length (slice_index_or lines k [])) × Holds (take k lines) page page'
Printed W lines page page' (Err fault.Memory) = W × (page' ≡ page)

-- no line was refused
abbrev pub Roomy : Result ℕ Fault → Type 0
Roomy (Ok n) = Unit {0}
Roomy (Err (fault.Line e)) = ⊥
Roomy (Err fault.Memory) = Unit {0}

-- a size that every report fits into: 257 lines of a step of at most 153 bytes, and 16 lines of a
-- keep-out of at most 27
abbrev pub page_size : ℕ
page_size = 40000
