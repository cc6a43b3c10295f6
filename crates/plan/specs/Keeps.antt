-- The keep-outs that a plan holds, as plain numbers and bytes.
use Rattle.std.specs.Prelude.{ℕ, List, take, drop, ℤ}
use Rattle.plan.specs.declared.keep.Keep.{Keep}
use Rattle.plan.specs.declared.keep.Span.{Span}
use Rattle.plan.specs.declared.keeps.Keeps.{Keeps}

-- a keep-out: its label, the entries of its direction, its threshold
pub record Kept : Type 0 where
  pub label : List ℕ
  pub entries : List ℤ
  pub threshold : ℤ

-- the part of a text that a span is
abbrev pub spanned : List ℕ → Span → List ℕ
spanned text s = take s.length (drop s.start text)

abbrev pub kept : List ℕ → Keep → Kept
kept text k = record { label = spanned text k.label; entries = k.keep_out.direction.entries; threshold = k.keep_out.threshold }

-- the keep-outs in order
abbrev pub kept_list : Keeps → List Keep
kept_list k = take k.list.len k.list.storage
