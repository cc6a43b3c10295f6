-- Simulated runs against bounds and keep-outs.
use Rattle.std.specs.Prelude.{ℕ, List, ℤ, Some, None, vec_items, vec_len, count_by, fold, Option}
use Rattle.dynamics.specs.declared.direction.Direction.{Direction}
use Rattle.dynamics.specs.declared.keep_out.KeepOut.{KeepOut}
use Rattle.trials.specs.declared.tally.Tally.{Tally}
use Rattle.trials.specs.declared.walk.Walk.{Walk}
use Rattle.trials.specs.Counts.{capped, joined, none}
use Rattle.trials.specs.Verdicts.{escapes, enters_any}
use Rattle.trials.specs.Walks.{state_at}

-- how many runs lie beyond a bound at step k
abbrev pub escaping : Direction → ℤ → ℕ → List Walk → ℕ
escaping l b k ws = count_by (λ w. escapes l b (state_at (vec_items w.states) k)) ws

-- how many runs enter a keep-out
abbrev pub entering : KeepOut → List Walk → ℕ
entering o ws = count_by (λ w. enters_any o (vec_items w.states)) ws

-- what is counted of one bound
abbrev pub seen : Direction → Option ℤ → ℕ → List Walk → Tally
seen l None k ws = record { present = 0; absent = 1; escapes = 0; clear = 0; entered = 0 }
seen l (Some b) k ws = record { present = 1; absent = 0; escapes = escaping l b k ws; clear = 0; entered = 0 }

-- how many states some runs have together
abbrev pub states_of : List Walk → ℕ
states_of ws = fold (λ n w. capped n (vec_len w.states)) 0 ws

-- what is counted at step k, where b answers the bound in each direction
abbrev pub seen_in : (Direction → Option ℤ) → ℕ → List Walk → List Direction → Tally
seen_in b k ws ls = fold (λ t l. joined t (seen l (b l) k ws)) none ls
