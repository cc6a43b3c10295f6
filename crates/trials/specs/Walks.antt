-- Simulated runs: how far they are followed, and their states.
use Rattle.std.specs.Prelude.{ℕ, ◌^◌, Bool, List, ℤ, Option, nat_le, slice_get, unsigned_abs}
use Rattle.std.specs.List.{list_all}

-- no part passes 2^39
abbrev pub near : List ℤ → Bool
near x = list_all (λ z. nat_le (unsigned_abs z) (2 ^ 39)) x

-- the state at step k of a list of states, absent past its end
abbrev pub state_at : List (List ℤ) → ℕ → Option (List ℤ)
state_at xs k = slice_get xs k
