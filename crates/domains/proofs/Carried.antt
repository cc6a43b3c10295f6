-- The limit on an axis after a step, as the code gathers it.
use Rattle.std.proofs.Common.{◌≡◌, ℕ, ◌+◌, ◌*◌, ◌/◌, ◌^◌, ◌<◌, ◌≤◌, Bool, true, false, List, ℤ, pos, ◌+ℤ◌, ◌*ℤ◌, nat_abs, sym, ap, ◌∙◌, subst, ap₂, arith, lit<, w64, SFits}
use borrow.Author.Differences.{ints}
use Rattle.arith.specs.Sums.{part, entry, sum, total, listed}
use Rattle.arith.specs.Products.{row_times, spanned}
use Rattle.arith.proofs.Bits.{back, fits_abs}
use Rattle.arith.proofs.Order.{triangle}
use Rattle.arith.proofs.Dots.{sum-size}
use Rattle.arith.proofs.Sums.{sum_ext, total_ext, listed_at}
use Rattle.dynamics.specs.declared.model.Model.{Model}
use Rattle.dynamics.specs.Limits.{MatrixLimits}
use Rattle.dynamics.specs.Values.{middle, radius}
use Rattle.dynamics.specs.Rows.{allowed, allowance, whole}
use Rattle.dynamics.specs.Support.{through, across, gusts}
use Rattle.domains.specs.Axes.{unit}
use Rattle.domains.specs.Gains.{GainLimits}
use Rattle.domains.specs.Box.{side, support}
use Rattle.domains.specs.AxesLemmas.{unit_size, unit-spanned}
use Rattle.domains.specs.BoxLaws.{support-size}
use Rattle.domains.proofs.GustReach.{centred_size, spread_size}

-- ---- a row of the matrix with the sign of an axis
row_ext : (a : ℕ) {us : List ℤ} {cs bs : List (List ℤ)} → us ≡ listed 4 (unit a) → cs ≡ bs → (j : ℕ) → row_times (part us) (entry cs) j ≡ row_times (unit a) (entry bs) j
row_ext a {us} {cs} {bs} e f j =
    sum_ext 4 (λ i. part us i *ℤ entry cs i j) (λ i. unit a i *ℤ entry bs i j)
    (λ i h. ap₂ ◌*ℤ◌ (ap (λ (xs : List ℤ). part xs i) e ∙ listed_at 4 (unit a) (pos 0) i h) (ap (λ (xs : List (List ℤ)). entry xs i j) f))

row_size : (a n : ℕ) (bs : List (List ℤ)) → MatrixLimits n bs → (j : ℕ) → j < n → nat_abs (row_times (unit a) (entry bs) j) ≤ 2 ^ 22
row_size a n bs h j k = sum-size 4 (unit a) (λ i. entry bs i j) 1 (2 ^ 20) (λ i q. unit_size a i) (λ i q. h i j q k)

-- what the kernel's product is, and that it is small
pub record Row (n : ℕ) (rs : List ℤ) (f : ℕ → ℤ) : Type 0 where
  pub is : (j : ℕ) → j < n → part rs j ≡ f j
  pub small : GainLimits n rs

pub row : (a n : ℕ) {us rs : List ℤ} {cs bs : List (List ℤ)} → us ≡ listed 4 (unit a) → cs ≡ bs → MatrixLimits n bs
    → (((j : ℕ) → j < n → SFits w64 (row_times (part us) (entry cs) j)) → rs ≡ listed n (row_times (part us) (entry cs)))
    → Row n rs (row_times (unit a) (entry bs))
row a n {us} {rs} {cs} {bs} e f h x =
    let is = λ (j : ℕ) (k : j < n).
    ap (λ (xs : List ℤ). part xs j)
    (x (λ i q. subst (SFits w64) (sym (row_ext a e f i)) (fits_abs (row_times (unit a) (entry bs) i) (2 ^ 22) (row_size a n bs h i q) (lit< tt))))
    ∙ listed_at n (row_times (part us) (entry cs)) (pos 0) j k ∙ row_ext a e f j in
    record { is = is; small = λ j k. rw (is j k) (row_size a n bs h j k) }

-- ---- the three parts of the sum
support_ext : (l k : ℕ → ℤ) (u : List ℤ) → ((i : ℕ) → i < 4 → l i ≡ k i) → support l u ≡ support k u
support_ext l k u e =
    sum_ext 4 (λ i. pos (nat_abs (l i)) *ℤ side (l i) (part u (2 * i)) (part u (2 * i + 1))) (λ i. pos (nat_abs (k i)) *ℤ side (k i) (part u (2 * i)) (part u (2 * i + 1)))
    (λ i h. ap (λ (z : ℤ). pos (nat_abs z) *ℤ side z (part u (2 * i)) (part u (2 * i + 1))) (e i h))

gusts_ext : (m : Model) (g k : ℕ → ℤ) → ((j : ℕ) → j < 2 → g j ≡ k j)
    → sum 2 (λ j. g j *ℤ middle m j) +ℤ pos (total 2 (λ j. nat_abs (g j) * radius m j)) ≡ sum 2 (λ j. k j *ℤ middle m j) +ℤ pos (total 2 (λ j. nat_abs (k j) * radius m j))
gusts_ext m g k e =
    ap₂ (λ (x : ℤ) (y : ℕ). x +ℤ pos y)
    (sum_ext 2 (λ j. g j *ℤ middle m j) (λ j. k j *ℤ middle m j) (λ j h. ap (λ (z : ℤ). z *ℤ middle m j) (e j h)))
    (total_ext 2 (λ j. nat_abs (g j) * radius m j) (λ j. nat_abs (k j) * radius m j) (λ j h. ap (λ (z : ℤ). nat_abs z * radius m j) (e j h)))

allowed_small : (b : Bool) → allowed b ≤ 4095
allowed_small true = omega arith
allowed_small false = omega arith

-- what is to show of down(reach + gusts + allowance)
pub record Gathered (r g h : ℤ) (z : ℤ) : Type 0 where
  pub first : SFits w64 (back r +ℤ back g)
  pub second : SFits w64 (back (back r +ℤ back g) +ℤ back h)
  pub is : back (back (back r +ℤ back g) +ℤ back h) ≡ z

sizes : (r g h : ℤ) → nat_abs r ≤ 2 ^ 54 → nat_abs g ≤ 2 ^ 48 → nat_abs h ≤ 4095 → Gathered r g h (r +ℤ g +ℤ h)
sizes r g h p q s = record { first = omega (arith, ints); second = omega (arith, ints); is = omega (arith, ints) }

pub gathered : (m : Model) (u : List ℤ) (a p : ℕ) (rs gs hs : List ℤ) {r g : ℤ} → a < 8 → p ≡ a / 2 → ((b : ℕ) → b < 8 → nat_abs (part u b) ≤ 2 ^ 30)
    → Row 4 rs (through m (unit a)) → Row 2 gs (across m (unit a))
    → r ≡ support (part rs) u → g ≡ sum 2 (λ j. part gs j *ℤ middle m j) +ℤ pos (total 2 (λ j. nat_abs (part gs j) * radius m j))
    → hs ≡ listed 4 (λ i. pos (allowance m i))
    → Gathered r g (part hs p) (support (through m (unit a)) u +ℤ gusts m (unit a) +ℤ pos (spanned (unit a) (allowance m)))
gathered m u a p rs gs hs {r} {g} k at small w q e f h =
    let e1 : r ≡ support (through m (unit a)) u = e ∙ support_ext (part rs) (through m (unit a)) u w.is in
    let e2 : g ≡ gusts m (unit a) = f ∙ gusts_ext m (part gs) (across m (unit a)) q.is in
    let e3 : part hs p ≡ pos (spanned (unit a) (allowance m)) =
    ap (part hs) at ∙ ap (λ (xs : List ℤ). part xs (a / 2)) h ∙ listed_at 4 (λ i. pos (allowance m i)) (pos 0) (a / 2) (omega arith) ∙ ap pos (sym (unit-spanned (allowance m) a k)) in
    let t1 : nat_abs r ≤ 2 ^ 54 = rw e (support-size (part rs) u (2 ^ 22) w.small small) in
    let s1 = centred_size m gs q.small in
    let s2 = spread_size m gs q.small in
    let t2 : nat_abs g ≤ 2 ^ 48 = rw f (omega (arith, triangle (sum 2 (λ j. part gs j *ℤ middle m j)) (pos (total 2 (λ j. nat_abs (part gs j) * radius m j))))) in
    let t3 : nat_abs (part hs p) ≤ 4095 = rw (e3 ∙ ap pos (unit-spanned (allowance m) a k)) (allowed_small (whole m (a / 2))) in
    let s = sizes r g (part hs p) t1 t2 t3 in
    record { first = s.first; second = s.second; is = s.is ∙ (λ i. e1 i +ℤ e2 i +ℤ e3 i) }
