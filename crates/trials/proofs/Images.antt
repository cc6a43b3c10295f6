-- The image of a state and gusts of bounded size, as code computes it.
use Rattle.std.proofs.Common.{◌≡◌, ℕ, ◌+◌, ◌*◌, ◌^◌, ◌<◌, ◌≤◌, List, ℤ, pos, ◌+ℤ◌, ◌-ℤ◌, ◌*ℤ◌, nat_abs, ap, ◌∙◌, subst, arith, w64, SFits}
use borrow.Author.Differences.{ints}
use Rattle.arith.specs.Sums.{part, entry, listed}
use Rattle.arith.specs.Products.{times_column}
use Rattle.arith.proofs.Bits.{back, back_is, fits_abs}
use Rattle.arith.proofs.Dots.{sum-size}
use Rattle.arith.proofs.Sums.{listed_at}
use Rattle.dynamics.specs.declared.model.Model.{Model}
use Rattle.dynamics.specs.Values.{loop, push, middle, radius}

pub turned_size : (m : Model) (x : List ℤ) → ((i : ℕ) → i < 4 → nat_abs (part x i) ≤ 2 ^ 39) → (i : ℕ) → i < 4 → nat_abs (times_column 4 (loop m) (part x) i) ≤ 4 * (2 ^ 20 * 2 ^ 39)
turned_size m x near i h = sum-size 4 (loop m i) (part x) (2 ^ 20) (2 ^ 39) (λ j k. m.entered i j h k) near

pub pushed_size : (m : Model) (d : List ℤ) → ((j : ℕ) → j < 2 → nat_abs (part d j) ≤ 2 ^ 24) → (i : ℕ) → i < 4 → nat_abs (times_column 2 (push m) (part d) i) ≤ 2 * (2 ^ 20 * 2 ^ 24)
pushed_size m d calm i h = sum-size 2 (push m i) (part d) (2 ^ 20) (2 ^ 24) (λ j k. m.gained i j h k) calm

-- the loop's part, and the gusts', are the true products
pub turned_is : (m : Model) (x : List ℤ) {a : List (List ℤ)} {u : List ℤ} → a ≡ m.matrix → ((i : ℕ) → i < 4 → nat_abs (part x i) ≤ 2 ^ 39)
    → (((i : ℕ) → i < 4 → SFits w64 (times_column 4 (entry a) (part x) i)) → u ≡ listed 4 (times_column 4 (entry a) (part x)))
    → u ≡ listed 4 (times_column 4 (loop m) (part x))
turned_is m x {a} {u} e near f =
    let P : List (List ℤ) → Type 0 = λ b. ((i : ℕ) → i < 4 → SFits w64 (times_column 4 (entry b) (part x) i)) → u ≡ listed 4 (times_column 4 (entry b) (part x)) in
    subst P e f (λ i h. fits_abs (times_column 4 (loop m) (part x) i) (4 * (2 ^ 20 * 2 ^ 39)) (turned_size m x near i h) (omega arith))

pub pushed_is : (m : Model) (d : List ℤ) {b : List (List ℤ)} {v : List ℤ} → b ≡ m.gains → ((j : ℕ) → j < 2 → nat_abs (part d j) ≤ 2 ^ 24)
    → (((i : ℕ) → i < 4 → SFits w64 (times_column 2 (entry b) (part d) i)) → v ≡ listed 4 (times_column 2 (entry b) (part d)))
    → v ≡ listed 4 (times_column 2 (push m) (part d))
pushed_is m d {b} {v} e calm f =
    let P : List (List ℤ) → Type 0 = λ b. ((i : ℕ) → i < 4 → SFits w64 (times_column 2 (entry b) (part d) i)) → v ≡ listed 4 (times_column 2 (entry b) (part d)) in
    subst P e f (λ i h. fits_abs (times_column 2 (push m) (part d) i) (2 * (2 ^ 20 * 2 ^ 24)) (pushed_size m d calm i h) (omega arith))

-- the sum of two parts that were read
pub record Added (a b z : ℤ) : Type 0 where
  pub fits : SFits w64 (back a +ℤ back b)
  pub is : back a +ℤ back b ≡ z
  pub small : nat_abs z ≤ 2 ^ 62

added : (a b s t : ℤ) → a ≡ s → b ≡ t → nat_abs s ≤ 4 * (2 ^ 20 * 2 ^ 39) → nat_abs t ≤ 2 * (2 ^ 20 * 2 ^ 24) → back a ≡ a → back b ≡ b → Added a b (s +ℤ t)
added a b s t p q h k e f = record { fits = omega (arith, ints); is = omega (arith, ints); small = omega (arith, ints) }

fits_as : (a s : ℤ) (n : ℕ) → a ≡ s → nat_abs s ≤ n → n < 2 ^ 63 → SFits w64 a
fits_as a s n e h k = omega (arith, ints)

pub part-added : (u v : List ℤ) (s t : ℕ → ℤ) → u ≡ listed 4 s → v ≡ listed 4 t
    → ((i : ℕ) → i < 4 → nat_abs (s i) ≤ 4 * (2 ^ 20 * 2 ^ 39)) → ((i : ℕ) → i < 4 → nat_abs (t i) ≤ 2 * (2 ^ 20 * 2 ^ 24))
    → (i : ℕ) → i < 4 → Added (part u i) (part v i) (s i +ℤ t i)
part-added u v s t p q small little i h =
    let a : part u i ≡ s i = ap (λ (w : List ℤ). part w i) p ∙ listed_at 4 s (pos 0) i h in
    let b : part v i ≡ t i = ap (λ (w : List ℤ). part w i) q ∙ listed_at 4 t (pos 0) i h in
    added (part u i) (part v i) (s i) (t i) a b (small i h) (little i h)
    (back_is (part u i) (fits_as (part u i) (s i) (4 * (2 ^ 20 * 2 ^ 39)) a (small i h) (omega arith)))
    (back_is (part v i) (fits_as (part v i) (t i) (2 * (2 ^ 20 * 2 ^ 24)) b (little i h) (omega arith)))

-- a gust within its radius of its centre
pub calm_size : (m : Model) (d : ℕ → ℤ) → ((j : ℕ) → j < 2 → nat_abs (d j -ℤ middle m j) ≤ radius m j) → (j : ℕ) → j < 2 → nat_abs (d j) ≤ 2 ^ 24
calm_size m d calm j h = near-size (d j) (middle m j) (radius m j) (calm j h) (m.calm.1 j h)
  where
    near-size : (d c : ℤ) (r : ℕ) → nat_abs (d -ℤ c) ≤ r → nat_abs c + r ≤ 2 ^ 24 → nat_abs d ≤ 2 ^ 24
    near-size d c r h k = omega (arith, ints)

-- a rounded part, as it was computed and stored
pub close_as : (y v s : ℤ) → SFits w64 y → nat_abs (pos 4096 *ℤ y -ℤ back v) < 4096 → v ≡ s → nat_abs v ≤ 2 ^ 62 → nat_abs (pos 4096 *ℤ back y -ℤ s) < 4096
close_as y v s f h e k = joined (back y) y (back v) v s (back_is y f) (back_is v (fits_abs v (2 ^ 62) k (omega arith))) h e
  where
    joined : (y' y v' v s : ℤ) → y' ≡ y → v' ≡ v → nat_abs (pos 4096 *ℤ y -ℤ v') < 4096 → v ≡ s → nat_abs (pos 4096 *ℤ y' -ℤ s) < 4096
    joined y' y v' v s p q h e = omega (arith, ints)
