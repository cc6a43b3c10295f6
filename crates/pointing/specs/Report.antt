-- The report of a run, and of a text that is refused.
use Rattle.std.specs.Prelude.{ℕ, zero, suc, ◌+◌, List, [], ◌++◌, take, Ok, Err, Result}
use Rattle.dynamics.specs.declared.model.Model.{Model}
use Rattle.domains.specs.Axes.{axis}
use Rattle.domains.specs.Enclosure.{enclosed}
use Rattle.domains.specs.Meaning.{Meaning}
use Rattle.plan.specs.declared.faults.Refusal.{Refusal}
use Rattle.plan.specs.declared.writer.Full.{Full}
use Rattle.plan.specs.declared.writer.Writer.{Writer}
use Rattle.plan.specs.Plans.{Sheet}
use Rattle.plan.specs.Report.{Puts, told, refused_line}
use Rattle.pointing.specs.Lines.{step_text}

-- the line of a step, by the domain's form
abbrev pub form_text : {Form : Type 0} → Meaning Form → ℕ → Form → List ℕ
form_text sense k f = step_text k (enclosed (λ a. sense.bounded (axis a) f))

-- the lines of the steps after step k, of which there are n
unfoldable pub later_text : {Form : Type 0} → Meaning Form → Model → ℕ → ℕ → Form → List ℕ
later_text sense m k zero f = []
later_text sense m k (suc n) f = form_text sense (k + 1) (sense.advanced m f) ++ later_text sense m (k + 1) n (sense.advanced m f)

-- the report so far
abbrev pub reported : Writer → List ℕ
reported w = take w.len w.buf.now

-- a refused text is answered by its one line
abbrev pub Refused : Result Sheet Refusal → Writer → Writer → Result (Unit {0}) Full → Type 0
Refused (Ok s) before after r = Unit {0}
Refused (Err e) before after r = Puts (refused_line (told e)) before after r
