-- What single fields say.
use Rattle.std.specs.Prelude.{ℕ, ◌^◌, Bool, cond, ◌&&◌, ◌||◌, List, [], ◌∷◌, length, ℤ, pos, neg_ℤ, Ok, Err, Result, int_lt, nat_le}
use Rattle.std.specs.Char.{is_ascii_alphanumeric}
use Rattle.std.specs.List.{list_all}
use Rattle.plan.specs.declared.faults.NumberFault.{NumberFault}
use Rattle.plan.specs.declared.faults.FieldFault.{FieldFault}
use Rattle.plan.specs.declared.faults.FieldFault.TheVariants.{Number, Label, Range}
use Rattle.plan.specs.Numbers.{number_of}
use Rattle.plan.specs.Readings.{bind}

-- a number of a field against the range from `least` to `most`
abbrev pub in_range : ℕ → ℤ → ℤ → Result ℤ NumberFault → Result ℤ FieldFault
in_range field least most (Ok z) = cond (int_lt z least || int_lt most z) (Err (Range field)) (Ok z)
in_range field least most (Err e) = Err (Number e)

abbrev pub ranged : ℕ → ℤ → ℤ → List ℕ → Result ℤ FieldFault
ranged field least most text = in_range field least most (number_of field text)

-- a number within ±limit, and one from 0 to limit
abbrev pub within_field : ℕ → ℕ → List ℕ → Result ℤ FieldFault
within_field field limit text = ranged field (neg_ℤ (pos limit)) (pos limit) text

abbrev pub up_to_field : ℕ → ℕ → List ℕ → Result ℤ FieldFault
up_to_field field limit text = ranged field (pos 0) (pos limit) text

-- the number i or j in field 2, which counts up from 1
abbrev pub index_of : ℕ → List ℕ → Result ℤ FieldFault
index_of next text = ranged 2 (pos next) (pos next) text

-- the four entries in fields 3 to 6, each within ±2^20
abbrev pub entries_of : List ℕ → List ℕ → List ℕ → List ℕ → Result (List ℤ) FieldFault
entries_of a b c d =
    bind (within_field 3 (2 ^ 20) a) (λ p. bind (within_field 4 (2 ^ 20) b) (λ q. bind (within_field 5 (2 ^ 20) c) (λ s. bind (within_field 6 (2 ^ 20) d) (λ t. Ok (p ∷ q ∷ s ∷ t ∷ [])))))

-- letters A to Z or a to z, and digits
abbrev pub all_plain : List ℕ → Bool
all_plain text = list_all is_ascii_alphanumeric text

-- 1 to 12 letters or digits
abbrev pub is_label : List ℕ → Bool
is_label text = nat_le 1 (length text) && (nat_le (length text) 12 && all_plain text)

-- the label in field 2
abbrev pub label_of : List ℕ → Result (List ℕ) FieldFault
label_of text = cond (is_label text) (Ok text) (Err (Label 2))
