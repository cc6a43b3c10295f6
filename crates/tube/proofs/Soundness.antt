-- A lawful domain holds every permitted run, and what judging says of runs.
use Rattle.std.proofs.Common.{◌≡◌, ℕ, zero, suc, ◌<◌, Bool, true, false, not, List, length, ℤ, ◌≤ℤ◌, Some, None, Option, refl, arith}
use lib.Signed.{lt_z}
use borrow.Author.Differences.{ints}
use Rattle.arith.specs.Products.{dot}
use Rattle.dynamics.specs.declared.direction.Direction.{Direction}
use Rattle.dynamics.specs.declared.keep_out.KeepOut.{KeepOut}
use Rattle.dynamics.specs.declared.model.Model.{Model}
use Rattle.dynamics.specs.declared.start.Start.{Start}
use Rattle.dynamics.specs.KeepOuts.{Enters}
use Rattle.dynamics.specs.Runs.{Run, state}
use Rattle.dynamics.specs.Values.{State, along}
use Rattle.domains.specs.Meaning.{Meaning, Answer, Lawful}
use Rattle.tube.specs.Judging.{reaches}
use Rattle.tube.specs.Promise.{form_at}

module _ {F : Type 0} {d : Meaning F} (laws : Lawful d) (m : Model) (s : Start) (f : F) (fits : d.fits f) where
  pub form_fits : (k : ℕ) → d.fits (form_at d m s f k)
  unfolding form_at
  form_fits zero = laws.fill_fits s f fits
  form_fits (suc k) = laws.advance_fits m (form_at d m s f k) (form_fits k)

  pub run_held : (xs : List State) → Run m s xs → (j : ℕ) → j < length xs → d.holds (form_at d m s f j) (state xs j)
  unfolding form_at
  run_held xs r zero h = laws.fill s f (state xs 0) fits r.begins
  run_held xs r (suc j) h = laws.advance m (form_at d m s f j) (state xs j) (state xs (suc j)) (form_fits j) (run_held xs r j (omega arith)) (r.follows j h)

  pub run_bound : (xs : List State) → Run m s xs → (j : ℕ) → j < length xs → (l : Direction) → Answer (d.bounded l (form_at d m s f j)) (λ b. dot (along l) (state xs j) ≤ℤ b)
  run_bound xs r j h l = laws.bound l (form_at d m s f j) (state xs j) (form_fits j) (run_held xs r j h)

-- a bound below the threshold keeps every state out
kept_out : (o : Option ℤ) (t z : ℤ) → reaches t o ≡ false → Answer o (λ b. z ≤ℤ b) → t ≤ℤ z → ⊥
kept_out None t z e a h = let q : ◌≡◌ {A = ℕ} 0 1 = cc in absurd (omega arith)
kept_out (Some b) t z e a h = go (lt_z b t) refl e
  where
    go : (c : Bool) → lt_z b t ≡ c → not c ≡ false → ⊥
    go true p q = let r : ◌≡◌ {A = ℕ} 0 1 = omega (arith, ints) in omega arith
    go false p q = let r : ◌≡◌ {A = ℕ} 0 1 = cc in omega arith

module _ {F : Type 0} {d : Meaning F} (laws : Lawful d) (m : Model) (s : Start) (f : F) (fits : d.fits f) where
  pub not_entered : (k : KeepOut) (xs : List State) → Run m s xs → (j : ℕ) → reaches k.threshold (d.bounded k.direction (form_at d m s f j)) ≡ false → Enters k xs j → ⊥
  not_entered k xs r j e h =
      kept_out (d.bounded k.direction (form_at d m s f j)) k.threshold (dot (along k.direction) (state xs j)) e (run_bound laws m s f fits xs r j h.0 k.direction) h.1
