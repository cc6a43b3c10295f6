-- The sizes of values that were drawn.
use Rattle.std.proofs.Common.{◌≡◌, ℕ, ◌+◌, ◌<◌, ◌≤◌, List, ℤ, pos, nat_abs, IfOk, Ok, Err, Result, sym, subst, arith, w64, SFits, MatchResult}
use borrow.Author.Differences.{ints}
use Rattle.arith.specs.Sums.{part}
use Rattle.arith.proofs.Bits.{back, back_is}
use Rattle.dynamics.specs.declared.model.Model.{Model}
use Rattle.dynamics.specs.declared.start.Start.{Start}
use Rattle.dynamics.specs.declared.refusal.Refusal.{Refusal}
use Rattle.dynamics.specs.Values.{centre, width, middle, radius}

-- centres and radii, number by number, within a size
abbrev pub Within : ℕ → ℕ → List ℤ → List ℤ → Type 0
Within n k cs ws = (i : ℕ) → i < k → nat_abs (part cs i) + nat_abs (part ws i) ≤ n

-- a centre and a radius that were drawn within a limit, as they are stored
pub paired : (x y l : ℤ) (n : ℕ) → SFits w64 x → SFits w64 y → SFits w64 l → l ≡ pos n → nat_abs x + nat_abs y ≤ nat_abs (back l) → nat_abs (back x) + nat_abs (back y) ≤ n
paired x y l n f g h e k = joined (back x) (back y) (back l) (back_is x f) (back_is y g) (back_is l h) k
  where
    joined : (x' y' l' : ℤ) → x' ≡ x → y' ≡ y → l' ≡ l → nat_abs x + nat_abs y ≤ nat_abs l' → nat_abs x' + nat_abs y' ≤ n
    joined x' y' l' a b d q = omega (arith, ints)

pub start_sizes : (r : Result Start Refusal) (n : ℕ) (cs ws : List ℤ) (good : Start → Type 0) (bad : Refusal → Type 0)
    → ((s : Start) → good s → (s.centres ≡ cs) × (s.radii ≡ ws)) → MatchResult r good bad → Within n 4 cs ws → IfOk r (λ s. (i : ℕ) → i < 4 → nat_abs (centre s i) + width s i ≤ n)
start_sizes (Ok s) n cs ws good bad are h w =
    subst (λ (x : List ℤ). Within n 4 x s.radii) (sym (are s h).0) (subst (λ (x : List ℤ). Within n 4 cs x) (sym (are s h).1) w)
start_sizes (Err e) n cs ws good bad are h w = tt

pub gust_sizes : (r : Result Model Refusal) (n : ℕ) (cs ws : List ℤ) (good : Model → Type 0) (bad : Refusal → Type 0)
    → ((m : Model) → good m → (m.centres ≡ cs) × (m.radii ≡ ws)) → MatchResult r good bad → Within n 2 cs ws → IfOk r (λ m. (j : ℕ) → j < 2 → nat_abs (middle m j) + radius m j ≤ n)
gust_sizes (Ok m) n cs ws good bad are h w =
    subst (λ (x : List ℤ). Within n 2 x m.radii) (sym (are m h).0) (subst (λ (x : List ℤ). Within n 2 cs x) (sym (are m h).1) w)
gust_sizes (Err e) n cs ws good bad are h w = tt
