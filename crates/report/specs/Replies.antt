-- The lines that a tube's replies give, by their places in the list of replies.
use Rattle.std.specs.Prelude.{ℕ, ◌+◌, ◌*◌, ◌^◌, ◌≤◌, List, [], ◌∷◌, ◌++◌, map, length, drop, ℤ, None, Option, slice_index_or, unsigned_abs}
use Rattle.std.specs.List.{range_with_len}
use Rattle.tube.specs.declared.call.Reply.{Reply}
use Rattle.tube.specs.declared.call.Reply.TheVariants.{Watched, Stepped, Bounded, Found, Refused}
use Rattle.tube.specs.declared.finding.Finding.{Finding}
use Rattle.tube.specs.declared.finding.Finding.TheVariants.{Open}
use Rattle.dynamics.specs.declared.keep_out.KeepOut.{KeepOut}
use Rattle.domains.specs.Meaning.{Meaning, Answer}
use Rattle.tube.specs.Calls.{watch_replies, begun, replies}
use Rattle.tube.specs.Tables.{empty_table}
use Rattle.plan.specs.declared.keep.Keep.{Keep}
use Rattle.plan.specs.declared.plan.Plan.{Plan}
use Rattle.plan.specs.Keeps.{spanned, kept_list}
use Rattle.report.specs.Lines.{ends, step_text, keep_text}
use Rattle.report.specs.Questions.{questions}

-- the bound in a reply, and the finding in one; a reply of another kind never says clear
abbrev pub bound_in : Reply → Option ℤ
bound_in Watched = None
bound_in Stepped = None
bound_in (Bounded b) = b
bound_in (Found f) = None
bound_in (Refused e) = None

abbrev pub finding_in : Reply → Finding
finding_in Watched = Open 0
finding_in Stepped = Open 0
finding_in (Bounded b) = Open 0
finding_in (Found f) = f
finding_in (Refused e) = Open 0

-- the reply at a place
abbrev pub reply_at : List Reply → ℕ → Reply
reply_at replies i = slice_index_or replies i Watched

-- the eight bounds that begin at a place
abbrev pub bounds_at : List Reply → ℕ → ℕ → Option ℤ
bounds_at answers at a = bound_in (reply_at answers (at + a))

-- every bound is within ±2^52
abbrev pub Limited : List Reply → Type 0
Limited replies = (i : ℕ) → Answer (bound_in (reply_at replies i)) (λ b. unsigned_abs b ≤ 2 ^ 52)

-- the line of step k, by the answers to the questions of a report: eight bounds for each step, and one
-- reply to the step between them
abbrev pub told_step : List Reply → ℕ → List ℕ
told_step answers k = step_text k (ends (bounds_at answers (9 * k)))

abbrev pub told_steps : List Reply → ℕ → List (List ℕ)
told_steps answers n = map (told_step answers) (range_with_len 0 (n + 1))

-- the lines of keep-outs, by the replies to what is found of each
abbrev pub told_keeps : List ℕ → List Keep → List Reply → List (List ℕ)
told_keeps text [] found = []
told_keeps text (k ∷ ks) found = keep_text (spanned text k.label) (finding_in (reply_at found 0)) ∷ told_keeps text ks (drop 1 found)

-- all lines of a report, where the findings follow the bounds of the last step
abbrev pub told_lines : List ℕ → List Keep → List Reply → ℕ → List (List ℕ)
told_lines text keeps answers n = told_steps answers n ++ told_keeps text keeps (drop (9 * n + 8) answers)

-- ---- the replies of a tube over a domain, of form f before its fill, to the watches and questions of a plan
abbrev pub keep_outs : Plan → List KeepOut
keep_outs p = map (λ k. k.keep_out) (kept_list p.keeps)

abbrev pub plan_replies : {Form : Type 0} → Meaning Form → Form → Plan → List Reply
plan_replies d f p =
    watch_replies empty_table (keep_outs p) ++ replies d p.model (begun d p.start f (keep_outs p)) (questions p.steps.count (length (keep_outs p)))
