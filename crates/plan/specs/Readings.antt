-- What it is to read from where a text was left: what was read, or the line and its fault.
use Rattle.std.specs.Prelude.{◌≡◌, ℕ, ◌+◌, List, Some, None, Ok, Err, Option, Result}
use Rattle.plan.specs.declared.faults.LineFault.{LineFault}
use Rattle.plan.specs.declared.faults.LineFault.TheVariants.{NoEnd}
use Rattle.plan.specs.declared.lines.Lines.{Lines}
use Rattle.plan.specs.Cuts.{line_of}

-- one after another, up to the first fault
abbrev pub bind : {A B E : Type 0} → Result A E → (A → Result B E) → Result B E
bind (Ok x) k = k x
bind (Err e) k = Err e

-- what was read, the number of the line that was read last, and what is left of the text; or the line that is at fault
abbrev pub Reading : Type 0 → Type 0
Reading A = Result (A × ℕ × List ℕ) (ℕ × LineFault)

-- a reading, and from where it left the text the next one
abbrev pub then : {A B : Type 0} → Reading A → (A → ℕ → List ℕ → Reading B) → Reading B
then r k = bind r (λ p. k p.0 p.1 p.2)

-- the next line, where n lines were read before
abbrev pub found : ℕ → Option (List ℕ × List ℕ) → Reading (List ℕ)
found n None = Err (n, NoEnd)
found n (Some p) = Ok (p.0, n, p.1)

abbrev pub cut_line : ℕ → List ℕ → Reading (List ℕ)
cut_line n t = found (n + 1) (line_of t)

-- what a line says, read from it by f
abbrev pub placed : {A : Type 0} → ℕ → List ℕ → Result A LineFault → Reading A
placed n t (Ok v) = Ok (v, n, t)
placed n t (Err e) = Err (n, e)

abbrev pub line_by : {A : Type 0} → (List ℕ → Result A LineFault) → ℕ → List ℕ → Reading A
line_by f n t = then (cut_line n t) (λ line n t. placed n t (f line))

-- a result is that of the reading f, whose value is shown by `show`; a line at fault is not passed
abbrev pub Reads : {A B : Type 0} → (B → A) → (ℕ → List ℕ → Reading A) → Lines → Lines → Result B LineFault → Type 0
Reads show f before after (Ok v) = f before.number before.rest.now ≡ Ok (show v, after.number, after.rest.now)
Reads show f before after (Err e) = f before.number before.rest.now ≡ Err (after.number + 1, e)
