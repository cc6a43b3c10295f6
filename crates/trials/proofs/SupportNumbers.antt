-- The exact support number by parts, as code computes it.
use Rattle.std.proofs.Common.{◌≡◌, ℕ, zero, suc, ◌+◌, ◌-◌, ◌*◌, ◌^◌, ◌<◌, List, [], ◌∷◌, ℤ, pos, negsuc, ◌+ℤ◌, ◌*ℤ◌, nat_abs, ◌≤ℤ◌, sym, refl, ap, ◌∙◌, ap₂, arith}
use borrow.Author.Differences.{ints}
use Rattle.arith.specs.Sums.{sum, total, listed, part, entry}
use Rattle.arith.specs.Products.{dot, row_times, spanned}
use Rattle.arith.proofs.Bridge.{sum_two, total_two}
use Rattle.arith.proofs.Sums.{sum_ext, sum-pos, total_ext, listed_at}
use Rattle.dynamics.specs.declared.model.Model.{Model}
use Rattle.dynamics.specs.declared.start.Start.{Start}
use Rattle.dynamics.specs.Values.{loop, push, middle, radius, centre, width}
use Rattle.dynamics.specs.Support.{through, across, gusts, exact}

-- a number of at least 0 is its size
nonneg : (z : ℤ) → pos 0 ≤ℤ z → z ≡ pos (nat_abs z)
nonneg (pos n) h = refl
nonneg (negsuc n) h = absurd (omega (arith, ints))

-- sizes of a list that was written from the index, times numbers
pub sum-listed : (n : ℕ) (f x : ℕ → ℤ) → sum n (λ i. part (listed n f) i *ℤ x i) ≡ sum n (λ i. f i *ℤ x i)
sum-listed n f x = sum_ext n (λ i. part (listed n f) i *ℤ x i) (λ i. f i *ℤ x i) (λ i h. ap (λ (z : ℤ). z *ℤ x i) (listed_at n f (pos 0) i h))

-- sizes times radii
spanning : (n : ℕ) (l w : ℕ → ℤ) → ((i : ℕ) → i < n → pos 0 ≤ℤ w i) → sum n (λ i. pos (nat_abs (l i)) *ℤ w i) ≡ pos (total n (λ i. nat_abs (l i) * nat_abs (w i)))
spanning n l w h =
    sum_ext n (λ i. pos (nat_abs (l i)) *ℤ w i) (λ i. pos (nat_abs (l i) * nat_abs (w i))) (λ i k. ap (λ (z : ℤ). pos (nat_abs (l i)) *ℤ z) (nonneg (w i) (h i k)))
    ∙ sum-pos n (λ i. nat_abs (l i) * nat_abs (w i))

sum_one : (f : ℕ → ℤ) → sum 1 f ≡ f 0
unfolding sum
sum_one f = omega (arith, ints)

-- how far numbers within radii of centres reach
abbrev pub reached : ℕ → (ℕ → ℤ) → (ℕ → ℤ) → (ℕ → ℤ) → ℤ
reached n l p w = sum n (λ i. l i *ℤ p i) +ℤ sum n (λ i. pos (nat_abs (l i)) *ℤ w i)

pub start_is : (s : Start) (l : ℕ → ℤ) {p w : List ℤ} → p ≡ s.centres → w ≡ s.radii → reached 4 l (part p) (part w) ≡ dot l (centre s) +ℤ pos (spanned l (width s))
start_is s l p w =
    ap₂ (λ (p w : List ℤ). reached 4 l (part p) (part w)) p w
    ∙ ap (λ (z : ℤ). dot l (centre s) +ℤ z) (spanning 4 l (part s.radii) s.limited.0)

-- what one channel adds
pub channel_is : {z g g' p p' w w' : ℤ} → g' ≡ g → p' ≡ p → w' ≡ w → pos 0 ≤ℤ w → z ≡ reached 1 (part (g' ∷ [])) (part (p' ∷ [])) (part (w' ∷ [])) → z ≡ g *ℤ p +ℤ pos (nat_abs g * nat_abs w)
channel_is {z} {g} {g'} {p} {p'} {w} {w'} a b d h e =
    e ∙ ap₂ ◌+ℤ◌ (sum_one (λ i. part (g' ∷ []) i *ℤ part (p' ∷ []) i)) (sum_one (λ i. pos (nat_abs (part (g' ∷ []) i)) *ℤ part (w' ∷ []) i))
    ∙ ap₂ ◌+ℤ◌ (ap₂ ◌*ℤ◌ a b) (ap₂ (λ (u v : ℤ). pos (nat_abs u) *ℤ v) a (d ∙ nonneg w h))

-- a direction carried onto the channels, from the gains that were read
pub pushed_is : (m : Model) (l : ℕ → ℤ) {b : List (List ℤ)} {xs : List ℤ} → xs ≡ listed 2 (row_times l (entry b)) → b ≡ m.gains → (j : ℕ) → j < 2 → part xs j ≡ across m l j
pushed_is m l e q j h = ap (λ (xs : List ℤ). part xs j) (e ∙ ap (λ (b : List (List ℤ)). listed 2 (row_times l (entry b))) q) ∙ listed_at 2 (across m l) (pos 0) j h

pub gusts_are : (m : Model) (l : ℕ → ℤ) {a b : ℤ} → a ≡ across m l 0 *ℤ middle m 0 +ℤ pos (nat_abs (across m l 0) * radius m 0)
    → b ≡ across m l 1 *ℤ middle m 1 +ℤ pos (nat_abs (across m l 1) * radius m 1) → a +ℤ b ≡ gusts m l
gusts_are m l {a} {b} p q =
    ap₂ ◌+ℤ◌ p q ∙ regroup (across m l 0 *ℤ middle m 0) (across m l 1 *ℤ middle m 1) (nat_abs (across m l 0) * radius m 0) (nat_abs (across m l 1) * radius m 1)
    ∙ ap₂ (λ (u : ℤ) (n : ℕ). u +ℤ pos n) (sym (sum_two (λ j. across m l j *ℤ middle m j))) (sym (total_two (λ j. nat_abs (across m l j) * radius m j)))
  where
    regroup : (u v : ℤ) (x y : ℕ) → (u +ℤ pos x) +ℤ (v +ℤ pos y) ≡ (u +ℤ v) +ℤ pos (x + y)
    regroup u v x y = omega (arith, ints)

-- a direction carried back, from the matrix that was read
pub carried_is : (m : Model) (l : ℕ → ℤ) {a : List (List ℤ)} {xs : List ℤ} → xs ≡ listed 4 (row_times l (entry a)) → a ≡ m.matrix → xs ≡ listed 4 (through m l)
carried_is m l e a = e ∙ ap (λ (a : List (List ℤ)). listed 4 (row_times l (entry a))) a

-- directions that agree in their four entries
across_ext : (a : ℕ → ℕ → ℤ) (l k : ℕ → ℤ) → ((i : ℕ) → i < 4 → l i ≡ k i) → (j : ℕ) → row_times l a j ≡ row_times k a j
across_ext a l k h j = sum_ext 4 (λ i. l i *ℤ a i j) (λ i. k i *ℤ a i j) (λ i q. ap (λ (z : ℤ). z *ℤ a i j) (h i q))

gusts_ext : (m : Model) (l k : ℕ → ℤ) → ((i : ℕ) → i < 4 → l i ≡ k i) → gusts m l ≡ gusts m k
gusts_ext m l k h =
    ap₂ (λ (u : ℤ) (n : ℕ). u +ℤ pos n)
    (sum_ext 2 (λ j. across m l j *ℤ middle m j) (λ j. across m k j *ℤ middle m j) (λ j q. ap (λ (z : ℤ). z *ℤ middle m j) (across_ext (push m) l k h j)))
    (total_ext 2 (λ j. nat_abs (across m l j) * radius m j) (λ j. nat_abs (across m k j) * radius m j) (λ j q. ap (λ (z : ℤ). nat_abs z * radius m j) (across_ext (push m) l k h j)))

pub exact_ext : (m : Model) (s : Start) (n : ℕ) (l k : ℕ → ℤ) → ((i : ℕ) → i < 4 → l i ≡ k i) → exact m s n l ≡ exact m s n k
exact_ext m s zero l k h =
    ap₂ (λ (u : ℤ) (n : ℕ). u +ℤ pos n)
    (sum_ext 4 (λ i. l i *ℤ centre s i) (λ i. k i *ℤ centre s i) (λ i q. ap (λ (z : ℤ). z *ℤ centre s i) (h i q)))
    (total_ext 4 (λ i. nat_abs (l i) * width s i) (λ i. nat_abs (k i) * width s i) (λ i q. ap (λ (z : ℤ). nat_abs z * width s i) (h i q)))
exact_ext m s (suc n) l k h =
    ap₂ (λ (u v : ℤ). u +ℤ pos (4096 ^ n) *ℤ v) (exact_ext m s n (through m l) (through m k) (λ i q. across_ext (loop m) l k h i)) (gusts_ext m l k h)

-- one step of the number, from a carried direction that was read into a list
pub exact_step : (m : Model) (s : Start) (k : ℕ) (l : ℕ → ℤ) {xs : List ℤ} {rest unit push : ℤ} → 0 < k → xs ≡ listed 4 (through m l)
    → rest ≡ exact m s (k - 1) (part xs) → unit ≡ pos (4096 ^ (k - 1)) → push ≡ gusts m l → rest +ℤ unit *ℤ push ≡ exact m s k l
exact_step m s zero l h e p q r = absurd (omega arith)
exact_step m s (suc n) l {xs} {rest} {unit} {push} h e p q r = taken (suc n - 1) (omega arith) p q
  where
    taken : (j : ℕ) → j ≡ n → rest ≡ exact m s j (part xs) → unit ≡ pos (4096 ^ j) → rest +ℤ unit *ℤ push ≡ exact m s (suc n) l
    taken j w p q =
        ap₂ ◌+ℤ◌
        (p ∙ ap (λ (i : ℕ). exact m s i (part xs)) w ∙ ap (λ (ys : List ℤ). exact m s n (part ys)) e ∙ exact_ext m s n (part (listed 4 (through m l))) (through m l) (λ i g. listed_at 4 (through m l) (pos 0) i g))
        (ap₂ ◌*ℤ◌ (q ∙ ap (λ (i : ℕ). pos (4096 ^ i)) w) r)
