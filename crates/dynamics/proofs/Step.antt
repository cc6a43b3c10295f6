-- How far one step reaches in any direction.
use Rattle.std.proofs.Common.{◌≡◌, ℕ, ◌*◌, ◌<◌, ◌≤◌, ℤ, pos, negsuc, ◌+ℤ◌, ◌-ℤ◌, ◌*ℤ◌, nat_abs, ◌≤ℤ◌, ap, ◌∙◌, ap₂, arith}
use borrow.Author.Differences.{ints}
use Rattle.arith.specs.Sums.{sum}
use Rattle.arith.specs.Products.{dot, times_column, spanned}
use Rattle.arith.proofs.Ring
use Rattle.arith.proofs.Ring.{linear}
use Rattle.arith.proofs.Order.{abs-mul-le, below_abs}
use Rattle.arith.proofs.Sums.{sum-add, sum-le, sum-pos}
use Rattle.arith.proofs.Dots.{dot-add, dot-mul, dot-size, dot-through}
use Rattle.dynamics.specs.declared.model.Model.{Model}
use Rattle.dynamics.specs.Values.{State, loop, push, middle, radius}
use Rattle.dynamics.specs.Runs.{image, Permitted}
use Rattle.dynamics.specs.Rows.{allowance}
use Rattle.dynamics.specs.Support.{through, across, gusts}
use Rattle.dynamics.proofs.Whole.{rounding}

-- a direction carried back through the loop and onto the channels
pub image-dot : (m : Model) (x : State) (d l : ℕ → ℤ) → dot l (image m x d) ≡ dot (through m l) x +ℤ sum 2 (λ j. across m l j *ℤ d j)
image-dot m x d l =
    dot-add l (times_column 4 (loop m) x) (times_column 2 (push m) d)
    ∙ ap₂ ◌+ℤ◌ (dot-through 4 l (loop m) x) (dot-through 2 l (push m) d)

-- one channel: k d ≤ k c + |k| r where |d - c| ≤ r
channel_reach : (k d c : ℤ) (r : ℕ) → nat_abs (d -ℤ c) ≤ r → (k *ℤ d) ≤ℤ (k *ℤ c +ℤ pos (nat_abs k * r))
channel_reach k d c r h =
    let t = abs-mul-le k (d -ℤ c) (nat_abs k) r (omega arith) h in
    let e : k *ℤ d ≡ k *ℤ c +ℤ k *ℤ (d -ℤ c) = ap (λ (z : ℤ). k *ℤ z) (omega (arith, ints)) ∙ Ring.mul-add k c (d -ℤ c) in
    omega (arith, linear, below_abs (k *ℤ (d -ℤ c)))

pub gusts_reach : (m : Model) (l d : ℕ → ℤ) → ((j : ℕ) → j < 2 → nat_abs (d j -ℤ middle m j) ≤ radius m j) → sum 2 (λ j. across m l j *ℤ d j) ≤ℤ gusts m l
gusts_reach m l d h =
    let t = sum-le 2 (λ j. across m l j *ℤ d j) (λ j. across m l j *ℤ middle m j +ℤ pos (nat_abs (across m l j) * radius m j))
    (λ j k. channel_reach (across m l j) (d j) (middle m j) (radius m j) (h j k)) in
    let e = sum-add 2 (λ j. across m l j *ℤ middle m j) (λ j. pos (nat_abs (across m l j) * radius m j)) in
    let f = sum-pos 2 (λ j. nat_abs (across m l j) * radius m j) in
    omega (arith, linear)

-- what rounding moves in direction l
rounded-near : (m : Model) (x y : State) (d l : ℕ → ℤ) → ((i : ℕ) → i < 4 → nat_abs (pos 4096 *ℤ y i -ℤ image m x d i) < 4096)
    → nat_abs (pos 4096 *ℤ dot l y -ℤ dot l (image m x d)) ≤ spanned l (allowance m)
rounded-near m x y d l h =
    let t = dot-size l (λ i. pos 4096 *ℤ y i +ℤ negsuc 0 *ℤ image m x d i) (allowance m)
    (λ i k. let r = rounding m x d i (y i) (h i k) in omega (arith, ints)) in
    let e = dot-add l (λ i. pos 4096 *ℤ y i) (λ i. negsuc 0 *ℤ image m x d i) in
    let f = dot-mul l (pos 4096) y in
    let g = dot-mul l (negsuc 0) (image m x d) in
    omega (arith, ints)

-- 4096 l y is at most what l A reaches at x, what the gusts add, and what rounding hides
pub step_reach : (m : Model) (x y : State) → Permitted m x y → (l : ℕ → ℤ)
    → (pos 4096 *ℤ dot l y) ≤ℤ (dot (through m l) x +ℤ gusts m l +ℤ pos (spanned l (allowance m)))
step_reach m x y p l =
    let t = rounded-near m x y p.gust l p.close in
    let e = image-dot m x p.gust l in
    let g = gusts_reach m l p.gust p.calm in
    omega (arith, ints)
