-- The verdict on a keep-out after some steps.
use Rattle.std.specs.Prelude.{ℕ, zero, suc, cond, ℤ, Option}
use Rattle.tube.specs.declared.finding.Finding.{Finding}
use Rattle.tube.specs.declared.finding.Finding.TheVariants.{Clear, Open}
use Rattle.tube.specs.Judging.{reaches}

-- what one step finds: open where its bound is absent or at least the threshold t
abbrev pub found_at : (ℕ → Option ℤ) → ℤ → ℕ → Finding
found_at b t k = cond (reaches t (b k)) (Open k) Clear

-- a keep-out that is open stays open since its step
abbrev pub first_open : Finding → Finding → Finding
first_open Clear next = next
first_open (Open s) next = Open s

-- by the bounds b at the steps 0 to k: open since the first step that finds it so, else clear
unfoldable pub verdict : (ℕ → Option ℤ) → ℤ → ℕ → Finding
verdict b t zero = found_at b t 0
verdict b t (suc k) = first_open (verdict b t k) (found_at b t (suc k))
