-- Single states against bounds and keep-outs.
use Rattle.std.specs.Prelude.{ℕ, ◌^◌, Bool, true, false, not, List, ℤ, pos, ◌+ℤ◌, ◌*ℤ◌, ◌≤ℤ◌, Some, None, Option, int_lt}
use Rattle.std.specs.List.{list_any}
use Rattle.arith.specs.Sums.{part}
use Rattle.arith.specs.Products.{dot}
use Rattle.dynamics.specs.declared.direction.Direction.{Direction}
use Rattle.dynamics.specs.declared.keep_out.KeepOut.{KeepOut}
use Rattle.dynamics.specs.Values.{along}

-- the state lies beyond the bound; one that is absent lies beyond every bound
abbrev pub escapes : Direction → ℤ → Option (List ℤ) → Bool
escapes l b None = true
escapes l b (Some x) = int_lt b (dot (along l) (part x))

-- the product with the direction is at least the threshold
abbrev pub entered : KeepOut → List ℤ → Bool
entered k x = not (int_lt (dot (along k.direction) (part x)) k.threshold)

-- some state of a list has entered
abbrev pub enters_any : KeepOut → List (List ℤ) → Bool
enters_any k xs = list_any (entered k) xs

-- where a side has a bound, the product has one that is not above it
abbrev pub refined : Option ℤ → Option ℤ → Option Bool
refined p None = None
refined None (Some y) = Some false
refined (Some x) (Some y) = Some (not (int_lt y x))

-- the bound times 4096^k is at least e and exceeds it by at most the allowance times 4096^k
abbrev pub TightBound : ℕ → ℤ → ℤ → ℤ → Type 0
TightBound k e b a = (e ≤ℤ (pos (4096 ^ k) *ℤ b)) × ((pos (4096 ^ k) *ℤ b) ≤ℤ (e +ℤ pos (4096 ^ k) *ℤ a))

-- the same of a bound and an allowance that are both present
abbrev pub TightAnswer : ℕ → ℤ → Option ℤ → Option ℤ → Type 0
TightAnswer k e None a = ⊥
TightAnswer k e (Some b) None = ⊥
TightAnswer k e (Some b) (Some a) = TightBound k e b a
