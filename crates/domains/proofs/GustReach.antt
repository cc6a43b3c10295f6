-- What the gusts add, as two products.
use Rattle.std.proofs.Common.{◌≡◌, ℕ, ◌*◌, ◌^◌, ◌<◌, ◌≤◌, List, ℤ, pos, ◌*ℤ◌, nat_abs, sym, ap, ◌∙◌, subst, ap₂, arith, lit<, w64, SFits}
use Rattle.arith.specs.Sums.{part, sum, total, listed}
use Rattle.arith.proofs.Bits.{fits_abs}
use Rattle.arith.proofs.Dots.{sum-size}
use Rattle.arith.proofs.Sums.{sum_ext, sum-pos, listed_at}
use Rattle.dynamics.specs.declared.model.Model.{Model}
use Rattle.dynamics.specs.Values.{middle, radius}
use Rattle.domains.specs.Gains.{GainLimits}
use Rattle.dynamics.proofs.Views.{radius_is, middle-size, radius-size}

-- a number that is a sum wherever the sum fits, and the sum is small
exactly : {r : ℤ} (s t : ℤ) (n : ℕ) → s ≡ t → nat_abs t ≤ n → n < 2 ^ 63 → (SFits w64 s → r ≡ s) → r ≡ t
exactly s t n e h k x = x (subst (SFits w64) (sym e) (fits_abs t n h k)) ∙ e

module _ (m : Model) (g : List ℤ) (small : GainLimits 2 g) where
  pub centred_size : nat_abs (sum 2 (λ j. part g j *ℤ middle m j)) ≤ 2 * (2 ^ 22 * 2 ^ 24)
  centred_size = sum-size 2 (part g) (middle m) (2 ^ 22) (2 ^ 24) small (middle-size m)

  pub spread_size : total 2 (λ j. nat_abs (part g j) * radius m j) ≤ 2 * (2 ^ 22 * 2 ^ 24)
  spread_size = omega (arith, rw (sum-pos 2 (λ j. nat_abs (part g j) * radius m j)) at (sum-size 2 (λ j. pos (nat_abs (part g j))) (λ j. pos (radius m j)) (2 ^ 22) (2 ^ 24) small (radius-size m)))

  pub centred : {ms : List ℤ} {r : ℤ} → ms ≡ m.centres → (SFits w64 (sum 2 (λ j. part g j *ℤ part ms j)) → r ≡ sum 2 (λ j. part g j *ℤ part ms j))
      → r ≡ sum 2 (λ j. part g j *ℤ middle m j)
  centred {ms} e x =
      exactly (sum 2 (λ j. part g j *ℤ part ms j)) (sum 2 (λ j. part g j *ℤ middle m j)) (2 * (2 ^ 22 * 2 ^ 24))
      (ap (λ (xs : List ℤ). sum 2 (λ j. part g j *ℤ part xs j)) e) centred_size (lit< tt) x

  pub spread : {ss rs : List ℤ} {r : ℤ} → ss ≡ listed 2 (λ j. pos (nat_abs (part g j))) → rs ≡ m.radii
      → (SFits w64 (sum 2 (λ j. part ss j *ℤ part rs j)) → r ≡ sum 2 (λ j. part ss j *ℤ part rs j)) → r ≡ pos (total 2 (λ j. nat_abs (part g j) * radius m j))
  spread {ss} {rs} e f x =
      exactly (sum 2 (λ j. part ss j *ℤ part rs j)) (pos (total 2 (λ j. nat_abs (part g j) * radius m j))) (2 * (2 ^ 22 * 2 ^ 24))
      (sum_ext 2 (λ j. part ss j *ℤ part rs j) (λ j. pos (nat_abs (part g j) * radius m j))
      (λ j h. ap₂ ◌*ℤ◌ (ap (λ (xs : List ℤ). part xs j) e ∙ listed_at 2 (λ j. pos (nat_abs (part g j))) (pos 0) j h) (ap (λ (xs : List ℤ). part xs j) f ∙ radius_is m j h))
      ∙ sum-pos 2 (λ j. nat_abs (part g j) * radius m j))
      spread_size (lit< tt) x
