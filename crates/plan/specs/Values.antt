-- What the lines of a plan say, each read by its record.
use Rattle.std.specs.Prelude.{ℕ, ◌+◌, ◌^◌, cond, List, [], ℤ, Ok, Err, Result, slice_index_or, unsigned_abs}
use Rattle.dynamics.specs.declared.channel.Channel.{Channel}
use Rattle.dynamics.specs.Ranges.{too_large}
use Rattle.dynamics.specs.declared.keep_out.KeepOut.{KeepOut}
use Rattle.plan.specs.declared.steps.Steps.{Steps}
use Rattle.plan.specs.declared.faults.FieldFault.{FieldFault}
use Rattle.plan.specs.declared.faults.LineFault.{LineFault}
use Rattle.plan.specs.declared.faults.LineFault.TheVariants.{Name, Field, Sum}
use Rattle.plan.specs.declared.record.Kind.TheVariants as kinds
use Rattle.plan.specs.declared.record.Expected.{Expected}
use Rattle.plan.specs.declared.record.Expected.TheVariants as expect
use Rattle.plan.specs.Readings.{bind}
use Rattle.plan.specs.Fields.{index_of, entries_of, label_of, within_field, up_to_field}
use Rattle.plan.specs.Records.{Fielded, record_of}
use Rattle.plan.specs.Keeps.{Kept}

-- a field's fault is its line's
abbrev pub in_line : {A : Type 0} → Result A FieldFault → Result A LineFault
in_line (Ok v) = Ok v
in_line (Err e) = Err (Field e)

-- a centre and the radius in the field after it, together at most limit
abbrev pub together : ℕ → ℕ → Result ℤ FieldFault → Result ℤ FieldFault → Result (ℤ × ℤ) LineFault
together field limit (Err e) w = Err (Field e)
together field limit (Ok p) (Err e) = Err (Field e)
together field limit (Ok p) (Ok w) = cond (too_large limit p w) (Err (Sum (field + 1))) (Ok (p, w))

-- a centre within ±limit and a radius from 0 to limit
abbrev pub pair_of : ℕ → ℕ → List ℕ → List ℕ → Result (ℤ × ℤ) LineFault
pair_of field limit centre radius = together field limit (within_field field limit centre) (up_to_field (field + 1) limit radius)

-- a row: its number, its entries
abbrev pub row_from : ℕ → List (List ℕ) → Result (List ℤ) LineFault
row_from i fs = bind (in_line (index_of i (slice_index_or fs 0 []))) (λ n. in_line (entries_of (slice_index_or fs 1 []) (slice_index_or fs 2 []) (slice_index_or fs 3 []) (slice_index_or fs 4 [])))

-- a channel: its number, its entries of B, the centre and radius of its gusts
abbrev pub gust_from : ℕ → List (List ℕ) → Result Channel LineFault
gust_from j fs =
    bind (in_line (index_of j (slice_index_or fs 0 [])))
    (λ n. bind (in_line (entries_of (slice_index_or fs 1 []) (slice_index_or fs 2 []) (slice_index_or fs 3 []) (slice_index_or fs 4 [])))
    (λ g. bind (pair_of 7 (2 ^ 24) (slice_index_or fs 5 []) (slice_index_or fs 6 [])) (λ p. Ok (record { gains = g; centre = p.0; radius = p.1 }))))

-- a part of the start: its number, its centre and radius
abbrev pub start_from : ℕ → List (List ℕ) → Result (ℤ × ℤ) LineFault
start_from i fs = bind (in_line (index_of i (slice_index_or fs 0 []))) (λ n. pair_of 3 (2 ^ 30) (slice_index_or fs 1 []) (slice_index_or fs 2 []))

-- checked values as plain numbers
abbrev pub plain_keep : KeepOut → List ℤ × ℤ
plain_keep k = (k.direction.entries, k.threshold)

abbrev pub plain_steps : Steps → ℕ
plain_steps s = s.count

-- the entries and the threshold of a keep-out
abbrev pub keep_out_of : List ℕ → List ℕ → List ℕ → List ℕ → List ℕ → Result (List ℤ × ℤ) LineFault
keep_out_of a b c d threshold = bind (in_line (entries_of a b c d)) (λ v. bind (in_line (within_field 7 (2 ^ 52) threshold)) (λ t. Ok (v, t)))

-- a keep-out: its label, its entries, its threshold
abbrev pub keep_from : List (List ℕ) → Result Kept LineFault
keep_from fs =
    bind (in_line (label_of (slice_index_or fs 0 [])))
    (λ l. bind (keep_out_of (slice_index_or fs 1 []) (slice_index_or fs 2 []) (slice_index_or fs 3 []) (slice_index_or fs 4 []) (slice_index_or fs 5 [])) (λ k. Ok (record { label = l; entries = k.0; threshold = k.1 })))

-- the steps, 0 to 256
abbrev pub steps_of : List ℕ → Result ℕ FieldFault
steps_of count = bind (up_to_field 2 256 count) (λ z. Ok (unsigned_abs z))

abbrev pub steps_from : List (List ℕ) → Result ℕ LineFault
steps_from fs = in_line (steps_of (slice_index_or fs 0 []))

-- a line after the starts: a keep-out, or the steps
pub data Late : Type 0 where
  keeping : Kept → Late
  stepping : ℕ → Late

-- no other record is expected there
abbrev pub late_from : Fielded → Result Late LineFault
late_from (kinds.Row, fs) = Err Name
late_from (kinds.Gust, fs) = Err Name
late_from (kinds.Start, fs) = Err Name
late_from (kinds.Keep, fs) = bind (keep_from fs) (λ k. Ok (keeping k))
late_from (kinds.Steps, fs) = bind (steps_from fs) (λ n. Ok (stepping n))

-- the same of whole lines
abbrev pub row_of : ℕ → List ℕ → Result (List ℤ) LineFault
row_of i line = bind (record_of expect.Row line) (λ r. row_from i r.1)

abbrev pub gust_of : ℕ → List ℕ → Result Channel LineFault
gust_of j line = bind (record_of expect.Gust line) (λ r. gust_from j r.1)

abbrev pub start_of : ℕ → List ℕ → Result (ℤ × ℤ) LineFault
start_of i line = bind (record_of expect.Start line) (λ r. start_from i r.1)

abbrev pub late_of : Expected → List ℕ → Result Late LineFault
late_of expected line = bind (record_of expected line) late_from
