-- What the text of a field says as a number: the number, or the offset of the first byte that cannot
-- stand (the text's length where more bytes are wanted).
use Rattle.std.specs.Prelude.{ℕ, ◌+◌, ◌-◌, ◌*◌, Bool, cond, ◌&&◌, List, [], ◌∷◌, ℤ, pos, neg_ℤ, Ok, Err, Result, ◌==◌, nat_le, nat_lt}
use Rattle.plan.specs.declared.faults.NumberFault.{NumberFault}

abbrev pub fault_at : ℕ → ℕ → NumberFault
fault_at field k = record { field = field; offset = k }

-- `0` to `9`, and `1` to `9`
abbrev pub is_digit : ℕ → Bool
is_digit b = nat_le 48 b && nat_le b 57

abbrev pub is_lead : ℕ → Bool
is_lead b = nat_le 49 b && nat_le b 57

-- the digits that follow: `v` is the value so far, `left` how many may follow, `at` the offset of the next byte
abbrev pub more : ℕ → ℕ → ℕ → ℕ → List ℕ → Result ℕ NumberFault
more field v left at [] = Ok v
more field v left at (b ∷ bs) = cond (nat_lt 0 left && is_digit b) (more field (v * 10 + (b - 48)) (left - 1) (at + 1) bs) (Err (fault_at field at))

-- a digit 1 to 9 and up to 15 more
abbrev pub lead : ℕ → ℕ → List ℕ → Result ℕ NumberFault
lead field at [] = Err (fault_at field at)
lead field at (b ∷ bs) = cond (is_lead b) (more field (b - 48) 15 (at + 1) bs) (Err (fault_at field at))

abbrev pub signed : (ℕ → ℤ) → Result ℕ NumberFault → Result ℤ NumberFault
signed f (Ok n) = Ok (f n)
signed f (Err e) = Err e

-- nothing follows a `0`
abbrev pub after_zero : ℕ → List ℕ → Result ℤ NumberFault
after_zero field [] = Ok (pos 0)
after_zero field (b ∷ bs) = Err (fault_at field 1)

-- the number in a field
abbrev pub number_of : ℕ → List ℕ → Result ℤ NumberFault
number_of field [] = Err (fault_at field 0)
number_of field (b ∷ bs) =
    cond (b == 48) (after_zero field bs) (cond (b == 45) (signed (λ n. neg_ℤ (pos n)) (lead field 1 bs)) (signed pos (lead field 0 (b ∷ bs))))
