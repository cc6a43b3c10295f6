-- Which runs of the loop are permitted. The fixed point is 4096.
use Rattle.std.specs.Prelude.{ℕ, suc, ◌<◌, ◌≤◌, List, length, ℤ, pos, ◌+ℤ◌, ◌-ℤ◌, ◌*ℤ◌, slice_index_or, unsigned_abs}
use Rattle.arith.specs.Products.{times_column}
use Rattle.dynamics.specs.declared.model.Model.{Model}
use Rattle.dynamics.specs.declared.start.Start.{Start}
use Rattle.dynamics.specs.Values.{State, loop, push, middle, radius, centre, width}

-- v_i: part i of A x + B d
abbrev pub image : Model → State → (ℕ → ℤ) → ℕ → ℤ
image m x d i = times_column 4 (loop m) x i +ℤ times_column 2 (push m) d i

-- y is a permitted successor of x: some whole gusts, each within its radius of its centre, take x
-- so that 4096 y lies less than 4096 from v in every part
pub record Permitted (m : Model) (x y : State) : Type 0 where
  pub gust : ℕ → ℤ
  pub calm : (j : ℕ) → j < 2 → unsigned_abs (gust j -ℤ middle m j) ≤ radius m j
  pub close : (i : ℕ) → i < 4 → unsigned_abs (pos 4096 *ℤ y i -ℤ image m x gust i) < 4096

-- x lies in the start
abbrev pub Started : Start → State → Type 0
Started s x = (i : ℕ) → i < 4 → unsigned_abs (x i -ℤ centre s i) ≤ width s i

-- the state at step k of a list of states x_0, x_1, ..
abbrev pub state : List State → ℕ → State
state xs k = slice_index_or xs k (λ i. pos 0)

-- a permitted run: the first state lies in the start, and each later one is a permitted successor
-- of the one before
pub record Run (m : Model) (s : Start) (xs : List State) : Type 0 where
  pub some : 1 ≤ length xs
  pub begins : Started s (state xs 0)
  pub follows : (k : ℕ) → suc k < length xs → Permitted m (state xs k) (state xs (suc k))
