-- The exact support number: how far an unrounded run reaches in a direction of any size.
use Rattle.std.specs.Prelude.{ℕ, zero, suc, ◌*◌, ◌^◌, ℤ, pos, ◌+ℤ◌, ◌*ℤ◌, unsigned_abs}
use Rattle.arith.specs.Sums.{sum, total}
use Rattle.arith.specs.Products.{dot, row_times, spanned}
use Rattle.dynamics.specs.declared.model.Model.{Model}
use Rattle.dynamics.specs.declared.start.Start.{Start}
use Rattle.dynamics.specs.Values.{loop, push, middle, radius, centre, width}

-- l A and l B: a direction carried back through the loop, and onto the channels
abbrev pub through : Model → (ℕ → ℤ) → ℕ → ℤ
through m l = row_times l (loop m)

abbrev pub across : Model → (ℕ → ℤ) → ℕ → ℤ
across m l = row_times l (push m)

-- the most that the gusts add in direction l: the sum of (l B)_j m_j + |(l B)_j| r_j
abbrev pub gusts : Model → (ℕ → ℤ) → ℤ
gusts m l = sum 2 (λ j. across m l j *ℤ middle m j) +ℤ pos (total 2 (λ j. unsigned_abs (across m l j) * radius m j))

-- H_k(l), 4096^k times the reach of k steps: H_0(l) = l p + sum |l_i| w_i, and H_(k+1)(l) = H_k(l A) + 4096^k times the gusts' part
abbrev pub exact : Model → Start → ℕ → (ℕ → ℤ) → ℤ
exact m s zero l = dot l (centre s) +ℤ pos (spanned l (width s))
exact m s (suc k) l = exact m s k (through m l) +ℤ pos (4096 ^ k) *ℤ gusts m l
