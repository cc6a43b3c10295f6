-- What a whole text says: a plan, or which refusal.
use Rattle.std.specs.Prelude.{ℕ, zero, suc, ◌+◌, Bool, true, false, cond, List, [], ◌∷◌, ◌++◌, map, length, ℤ, Ok, Err, Result, nat_lt}
use Rattle.dynamics.specs.declared.model.Model.{Model}
use Rattle.dynamics.specs.declared.start.Start.{Start}
use Rattle.dynamics.specs.Refusals.{by_parts}
use Rattle.plan.specs.declared.faults.LineFault.TheVariants.{Crowded}
use Rattle.plan.specs.declared.faults.Refusal.{Refusal}
use Rattle.plan.specs.declared.faults.Refusal.TheVariants.{TooLong, Line, Following}
use Rattle.plan.specs.declared.record.Expected.{Expected}
use Rattle.plan.specs.declared.record.Expected.TheVariants as expect
use Rattle.plan.specs.declared.plan.Tail.{Tail}
use Rattle.plan.specs.declared.plan.Plan.{Plan}
use Rattle.plan.specs.declared.late.Late.{Late as Later}
use Rattle.plan.specs.declared.late.Late.TheVariants as later
use Rattle.plan.specs.Readings.{Reading, then, line_by}
use Rattle.plan.specs.Keeps.{Kept, kept, kept_list}
use Rattle.plan.specs.Values.{row_of, gust_of, start_of, late_of, Late, keeping, stepping}

-- the numbers of a model: A by rows, B by rows, centres and radii of the two channels
pub record Loop : Type 0 where
  pub matrix : List (List ℤ)
  pub gains : List (List ℤ)
  pub centres : List ℤ
  pub radii : List ℤ

-- centres and radii of the four parts
pub record Begin : Type 0 where
  pub centres : List ℤ
  pub radii : List ℤ

-- a plan, as plain numbers and bytes
pub record Sheet : Type 0 where
  pub loop : Loop
  pub begin : Begin
  pub keeps : List Kept
  pub steps : ℕ

-- four rows
abbrev pub rows_at : ℕ → List ℕ → Reading (List (List ℤ))
rows_at n t =
    then (line_by (row_of 1) n t)
    (λ a n t. then (line_by (row_of 2) n t) (λ b n t. then (line_by (row_of 3) n t) (λ c n t. then (line_by (row_of 4) n t) (λ d n t. Ok (a ∷ b ∷ c ∷ d ∷ [], n, t)))))

-- four rows, then two channels
abbrev pub loop_at : ℕ → List ℕ → Reading Loop
loop_at n t =
    then (rows_at n t)
    (λ a n t. then (line_by (gust_of 1) n t)
    (λ c n t. then (line_by (gust_of 2) n t)
    (λ d n t. Ok (record { matrix = a; gains = by_parts c.gains d.gains; centres = c.centre ∷ d.centre ∷ []; radii = c.radius ∷ d.radius ∷ [] }, n, t))))

-- four parts of the start
abbrev pub begin_at : ℕ → List ℕ → Reading Begin
begin_at n t =
    then (line_by (start_of 1) n t)
    (λ a n t. then (line_by (start_of 2) n t)
    (λ b n t. then (line_by (start_of 3) n t)
    (λ c n t. then (line_by (start_of 4) n t)
    (λ d n t. Ok (record { centres = a.0 ∷ b.0 ∷ c.0 ∷ d.0 ∷ []; radii = a.1 ∷ b.1 ∷ c.1 ∷ d.1 ∷ [] }, n, t)))))

-- the steps end what follows the starts; after a keep-out it goes on
abbrev pub go_on : (List Kept → ℕ → List ℕ → Reading (List Kept × ℕ)) → List Kept → Late → ℕ → List ℕ → Reading (List Kept × ℕ)
go_on again keeps (keeping k) n t = again (keeps ++ k ∷ []) n t
go_on again keeps (stepping s) n t = Ok ((keeps, s), n, t)

-- after `keeps`, up to so many more keep-outs, and then the steps
unfoldable pub tail_at : ℕ → List Kept → ℕ → List ℕ → Reading (List Kept × ℕ)
tail_at zero keeps n t = then (line_by (late_of expect.OnlySteps) n t) (go_on (λ ks n t. Err (n, Crowded)) keeps)
tail_at (suc room) keeps n t = then (line_by (late_of expect.KeepOrSteps) n t) (go_on (tail_at room) keeps)

-- the records of a plan, line by line
abbrev pub sheet_at : ℕ → List ℕ → Reading Sheet
sheet_at n t =
    then (loop_at n t)
    (λ l n t. then (begin_at n t) (λ b n t. then (tail_at 16 [] n t) (λ e n t. Ok (record { loop = l; begin = b; keeps = e.0; steps = e.1 }, n, t))))

-- nothing may follow the steps
abbrev pub at_end : Sheet → ℕ → List ℕ → Result Sheet Refusal
at_end s n [] = Ok s
at_end s n (b ∷ bs) = Err (Following (n + 1))

abbrev pub ended : Reading Sheet → Result Sheet Refusal
ended (Ok p) = at_end p.0 p.1 p.2
ended (Err e) = Err (Line e.0 e.1)

-- the plan that a text says, or its refusal
abbrev pub plan_of : List ℕ → Result Sheet Refusal
plan_of text = cond (nat_lt 8192 (length text)) (Err TooLong) (ended (sheet_at 0 text))

-- checked values as plain numbers; labels are parts of the text
abbrev pub plain_loop : Model → Loop
plain_loop m = record { matrix = m.matrix; gains = m.gains; centres = m.centres; radii = m.radii }

abbrev pub plain_begin : Start → Begin
plain_begin s = record { centres = s.centres; radii = s.radii }

abbrev pub plain_late : List ℕ → Later → Late
plain_late text (later.Keep k) = keeping (kept text k)
plain_late text (later.Steps s) = stepping s.count

abbrev pub plain_tail : List ℕ → Tail → List Kept × ℕ
plain_tail text e = (map (kept text) (kept_list e.keeps), e.steps.count)

abbrev pub sheet : List ℕ → Plan → Sheet
sheet text p = record { loop = plain_loop p.model; begin = plain_begin p.start; keeps = map (kept text) (kept_list p.keeps); steps = p.steps.count }

-- the lines after the starts
abbrev pub is_late : Expected → Bool
is_late expect.Row = false
is_late expect.Gust = false
is_late expect.Start = false
is_late expect.KeepOrSteps = true
is_late expect.OnlySteps = true
