-- The laws of sums over an index.
use Rattle.std.proofs.Common.{◌≡◌, ℕ, zero, suc, ◌+◌, ◌*◌, ◌<◌, ◌≤◌, Bool, true, false, cond, ◌&&◌, eqb, ◌≢◌, List, [], ◌∷◌, length, get_or, set, ℤ, pos, ◌+ℤ◌, ◌*ℤ◌, nat_abs, ◌≤ℤ◌, sym, refl, ap, ◌∙◌, subst, ap₂, ⊎_elim, suc-mul, mul-zero, zero-mul, mul-add, arith, length-set, get_or-set_other, get_or-set_same}
use Rattle.std.specs.List.{list_all}
use Rattle.std.proofs.lemmas.Bool.{cases_eq}
use lib.IntN.{*ℤ-zero, zero-*ℤ, +ℤ_idl, +ℤ_idr}
use lib.Dec.{eqb-suc-zero, eqb-zero-suc, eqb-suc-suc}
use borrow.Author.Differences.{ints}
use Rattle.arith.proofs.Ring.{linear}
use Rattle.arith.proofs.Ring
use Rattle.arith.proofs.Order.{triangle}
use Rattle.arith.specs.Sums.{sum, total, listed, every}

pub listed_at : {A : Type 0} (n : ℕ) (f : ℕ → A) (d : A) (i : ℕ) → i < n → get_or (listed n f) i d ≡ f i
unfolding listed
listed_at zero f d i h = absurd (omega arith)
listed_at (suc n) f d zero h = refl
listed_at (suc n) f d (suc i) h = listed_at n (λ i. f (suc i)) d i (omega arith)

pub every_at : (n : ℕ) (p : ℕ → Bool) → every n p ≡ true → (i : ℕ) → i < n → p i ≡ true
unfolding every
every_at zero p e i h = absurd (omega arith)
every_at (suc n) p e i h = first (every_at n (λ i. p (suc i))) (p 0) refl e i h
  where
    first : (every n (λ i. p (suc i)) ≡ true → (i : ℕ) → i < n → p (suc i) ≡ true)
        → (b : Bool) → p 0 ≡ b → elim b [ true ↦ every n (λ i. p (suc i)) | false ↦ false ] ≡ true → (i : ℕ) → i < suc n → p i ≡ true
    first more true q e zero h = q
    first more true q e (suc i) h = more e i (omega arith)
    first more false q e i h = cc

pub at_every : (n : ℕ) (p : ℕ → Bool) → ((i : ℕ) → i < n → p i ≡ true) → every n p ≡ true
unfolding every
at_every zero p h = refl
at_every (suc n) p h = ap (λ (b : Bool). elim b [ true ↦ every n (λ i. p (suc i)) | false ↦ false ]) (h 0 (omega arith)) ∙ at_every n (λ i. p (suc i)) (λ i k. h (suc i) (omega arith))

-- a test of all elements of a list of n, as one of each index
pub list_all-every : {A : Type 0} (p : A → Bool) (d : A) (n : ℕ) (xs : List A) → length xs ≡ n → list_all p xs ≡ every n (λ i. p (get_or xs i d))
unfolding every
list_all-every p d zero [] e = refl
list_all-every p d zero (x ∷ xs) e = absurd (omega arith)
list_all-every p d (suc n) [] e = absurd (omega arith)
list_all-every {A} p d (suc n) (x ∷ xs) e = ap (λ (b : Bool). p x && b) (list_all-every p d n xs (omega arith)) ∙ first (p x) (every n (λ i. p (get_or xs i d)))
  where
    first : (a b : Bool) → (a && b) ≡ elim a [ true ↦ b | false ↦ false ]
    first true b = refl
    first false b = refl

pub length-listed : {A : Type 0} (n : ℕ) (f : ℕ → A) → length (listed n f) ≡ n
unfolding listed
length-listed zero f = refl
length-listed (suc n) f = ap suc (length-listed n (λ i. f (suc i)))

-- a list of n elements is written from the index by which it is read
pub listed_is : {A : Type 0} (n : ℕ) (f : ℕ → A) (d : A) (xs : List A) → length xs ≡ n → ((i : ℕ) → i < n → get_or xs i d ≡ f i) → xs ≡ listed n f
unfolding listed
listed_is zero f d [] e h = refl
listed_is zero f d (x ∷ xs) e h = absurd (omega arith)
listed_is (suc n) f d [] e h = absurd (omega arith)
listed_is (suc n) f d (x ∷ xs) e h = ap₂ ◌∷◌ (h 0 (omega arith)) (listed_is n (λ i. f (suc i)) d xs (omega arith) (λ i k. h (suc i) (omega arith)))

-- what holds of element b of a list of which element a was set to t
pub set_at : (u : List ℤ) (a b : ℕ) (t : ℤ) (P : ℤ → Type 0) → a < length u → (a ≡ b → P t) → ((b ≡ a → ⊥) → P (get_or u b (pos 0))) → P (get_or (set u a t) b (pos 0))
set_at u a b t P h same other =
    ⊎_elim
    (λ (e : b ≡ a). subst (λ (k : ℕ). P (get_or (set u a t) k (pos 0))) (sym e) (let lt : a < length u = h in rw (get_or-set_same u a t (pos 0)) (same (sym e))))
    (λ (ne : b ≡ a → ⊥). let n : b ≢ a = ne in rw (get_or-set_other u a b t (pos 0)) (other ne))
    (cases_eq b a)

-- a list written from the index but for one element, which is set
pub set-listed : (n : ℕ) (u : List ℤ) (p : ℕ) {v : ℤ} (f : ℕ → ℤ) → length u ≡ n → p < n → v ≡ f p → ((i : ℕ) → i < n → (i ≡ p → ⊥) → get_or u i (pos 0) ≡ f i) → set u p v ≡ listed n f
set-listed n u p {v} f e h q others =
    listed_is n f (pos 0) (set u p v) (length-set u p v ∙ e)
    (λ i k. set_at u p i v (λ (z : ℤ). z ≡ f i) (omega arith) (λ r. q ∙ ap f r) (others i k))

-- a list that a loop writes from the index: its first a elements stand, and one more is written
pub record Written (n a : ℕ) (f : ℕ → ℤ) (u : List ℤ) : Type 0 where
  pub long : length u ≡ n
  pub stands : (k : ℕ) → k < a → get_or u k (pos 0) ≡ f k

pub written-more : (n a : ℕ) (f : ℕ → ℤ) (u : List ℤ) {v : ℤ} → a < n → Written n a f u → v ≡ f a → Written n (a + 1) f (set u a v)
written-more n a f u {v} h w e = record {
  long = length-set u a v ∙ w.long;
  stands = λ k q. set_at u a k v (λ (z : ℤ). z ≡ f k) (omega (arith, w.long)) (λ p. e ∙ ap f p) (λ ne. w.stands k (omega (arith, apart k a ne)));
}
  where
    apart : (k a : ℕ) → (k ≡ a → ⊥) → k ≢ a
    apart k a ne = ne

pub written_all : (n a : ℕ) (f : ℕ → ℤ) (u : List ℤ) → n ≤ a → Written n a f u → u ≡ listed n f
written_all n a f u h w = listed_is n f (pos 0) u w.long (λ k q. w.stands k (omega arith))

pub sum_ext : (n : ℕ) (f g : ℕ → ℤ) → ((i : ℕ) → i < n → f i ≡ g i) → sum n f ≡ sum n g
unfolding sum
sum_ext zero f g h = refl
sum_ext (suc n) f g h = ap₂ ◌+ℤ◌ (h 0 (omega arith)) (sum_ext n (λ i. f (suc i)) (λ i. g (suc i)) (λ i k. h (suc i) (omega arith)))

-- one term more at the end
sum_last : (n : ℕ) (f : ℕ → ℤ) → sum (suc n) f ≡ sum n f +ℤ f n
unfolding sum
sum_last zero f = omega (arith, linear)
sum_last (suc n) f = let e = sum_last n (λ i. f (suc i)) in omega (arith, linear)

pub sum_more : (n : ℕ) (f : ℕ → ℤ) → sum (n + 1) f ≡ sum n f +ℤ f n
sum_more n f = let e : n + 1 ≡ suc n = omega arith in ap (λ (k : ℕ). sum k f) e ∙ sum_last n f

pub sum-add : (n : ℕ) (f g : ℕ → ℤ) → sum n (λ i. f i +ℤ g i) ≡ sum n f +ℤ sum n g
unfolding sum
sum-add zero f g = refl
sum-add (suc n) f g = let e = sum-add n (λ i. f (suc i)) (λ i. g (suc i)) in omega (arith, linear)

pub sum-mul : (n : ℕ) (k : ℤ) (f : ℕ → ℤ) → sum n (λ i. k *ℤ f i) ≡ k *ℤ sum n f
unfolding sum
sum-mul zero k f = sym (*ℤ-zero k)
sum-mul (suc n) k f = ap (λ (z : ℤ). k *ℤ f 0 +ℤ z) (sum-mul n k (λ i. f (suc i))) ∙ sym (Ring.mul-add k (f 0) (sum n (λ i. f (suc i))))

pub sum-zero : (n : ℕ) → sum n (λ i. pos 0) ≡ pos 0
unfolding sum
sum-zero zero = refl
sum-zero (suc n) = ap (λ (z : ℤ). pos 0 +ℤ z) (sum-zero n)

-- a sum of which one term is left
pub sum_single : (n k : ℕ) (c : ℤ) (x : ℕ → ℤ) → k < n → sum n (λ i. cond (eqb i k) c (pos 0) *ℤ x i) ≡ c *ℤ x k
unfolding sum
sum_single zero k c x h = absurd (omega arith)
sum_single (suc n) zero c x h =
    let e = sum_ext n (λ i. cond (eqb (suc i) 0) c (pos 0) *ℤ x (suc i)) (λ i. pos 0) (λ i k. ap (λ (b : Bool). cond b c (pos 0) *ℤ x (suc i)) (eqb-suc-zero i) ∙ zero-*ℤ (x (suc i))) in
    ap (λ (z : ℤ). c *ℤ x 0 +ℤ z) (e ∙ sum-zero n) ∙ +ℤ_idr (c *ℤ x 0)
sum_single (suc n) (suc k) c x h =
    let e = sum_ext n (λ i. cond (eqb (suc i) (suc k)) c (pos 0) *ℤ x (suc i)) (λ i. cond (eqb i k) c (pos 0) *ℤ x (suc i)) (λ i j. ap (λ (b : Bool). cond b c (pos 0) *ℤ x (suc i)) (eqb-suc-suc i k)) in
    ap₂ ◌+ℤ◌ (ap (λ (b : Bool). cond b c (pos 0) *ℤ x 0) (eqb-zero-suc k) ∙ zero-*ℤ (x 0)) (e ∙ sum_single n k c (λ i. x (suc i)) (omega arith)) ∙ +ℤ_idl (c *ℤ x (suc k))

pub sum_swap : (n m : ℕ) (f : ℕ → ℕ → ℤ) → sum n (λ i. sum m (f i)) ≡ sum m (λ j. sum n (λ i. f i j))
unfolding sum
sum_swap zero m f = sym (sum-zero m)
sum_swap (suc n) m f = ap (λ (z : ℤ). sum m (f 0) +ℤ z) (sum_swap n m (λ i. f (suc i))) ∙ sym (sum-add m (f 0) (λ j. sum n (λ i. f (suc i) j)))

pub total-le : (n : ℕ) (f g : ℕ → ℕ) → ((i : ℕ) → i < n → f i ≤ g i) → total n f ≤ total n g
unfolding total
total-le zero f g h = omega arith
total-le (suc n) f g h = let e = total-le n (λ i. f (suc i)) (λ i. g (suc i)) (λ i k. h (suc i) (omega arith)) in omega (arith, h 0 (omega arith))

pub total_ext : (n : ℕ) (f g : ℕ → ℕ) → ((i : ℕ) → i < n → f i ≡ g i) → total n f ≡ total n g
unfolding total
total_ext zero f g h = refl
total_ext (suc n) f g h = ap₂ ◌+◌ (h 0 (omega arith)) (total_ext n (λ i. f (suc i)) (λ i. g (suc i)) (λ i k. h (suc i) (omega arith)))

pub total-add : (n : ℕ) (f g : ℕ → ℕ) → total n (λ i. f i + g i) ≡ total n f + total n g
unfolding total
total-add zero f g = refl
total-add (suc n) f g = let e = total-add n (λ i. f (suc i)) (λ i. g (suc i)) in omega arith

pub total-mul : (n k : ℕ) (f : ℕ → ℕ) → total n (λ i. k * f i) ≡ k * total n f
unfolding total
total-mul zero k f = sym (mul-zero k)
total-mul (suc n) k f = ap (λ (z : ℕ). k * f 0 + z) (total-mul n k (λ i. f (suc i))) ∙ sym (mul-add k (f 0) (total n (λ i. f (suc i))))

pub total-zero : (n : ℕ) → total n (λ i. 0) ≡ 0
unfolding total
total-zero zero = refl
total-zero (suc n) = ap (λ (z : ℕ). 0 + z) (total-zero n)

pub total_single : (n k : ℕ) (c : ℤ) (x : ℕ → ℕ) → k < n → total n (λ i. nat_abs (cond (eqb i k) c (pos 0)) * x i) ≡ nat_abs c * x k
unfolding total
total_single zero k c x h = absurd (omega arith)
total_single (suc n) zero c x h =
    let e = total_ext n (λ i. nat_abs (cond (eqb (suc i) 0) c (pos 0)) * x (suc i)) (λ i. 0) (λ i k. ap (λ (b : Bool). nat_abs (cond b c (pos 0)) * x (suc i)) (eqb-suc-zero i) ∙ zero-mul (x (suc i))) in
    omega (arith, total-zero n)
total_single (suc n) (suc k) c x h =
    let e = total_ext n (λ i. nat_abs (cond (eqb (suc i) (suc k)) c (pos 0)) * x (suc i)) (λ i. nat_abs (cond (eqb i k) c (pos 0)) * x (suc i)) (λ i j. ap (λ (b : Bool). nat_abs (cond b c (pos 0)) * x (suc i)) (eqb-suc-suc i k)) in
    let f : nat_abs (cond (eqb 0 (suc k)) c (pos 0)) * x 0 ≡ 0 = ap (λ (b : Bool). nat_abs (cond b c (pos 0)) * x 0) (eqb-zero-suc k) ∙ zero-mul (x 0) in
    omega (arith, total_single n k c (λ i. x (suc i)) (omega arith))

pub total_swap : (n m : ℕ) (f : ℕ → ℕ → ℕ) → total n (λ i. total m (f i)) ≡ total m (λ j. total n (λ i. f i j))
unfolding total
total_swap zero m f = sym (total-zero m)
total_swap (suc n) m f = ap (λ (z : ℕ). total m (f 0) + z) (total_swap n m (λ i. f (suc i))) ∙ sym (total-add m (f 0) (λ j. total n (λ i. f (suc i) j)))

pub total_size : (n : ℕ) (f : ℕ → ℕ) (b : ℕ) → ((i : ℕ) → i < n → f i ≤ b) → total n f ≤ n * b
unfolding total
total_size zero f b h = omega arith
total_size (suc n) f b h = omega (arith, total_size n (λ i. f (suc i)) b (λ i k. h (suc i) (omega arith)), h 0 (omega arith), suc-mul n b)

pub sum-pos : (n : ℕ) (f : ℕ → ℕ) → sum n (λ i. pos (f i)) ≡ pos (total n f)
unfolding sum total
sum-pos zero f = refl
sum-pos (suc n) f = ap (λ (z : ℤ). pos (f 0) +ℤ z) (sum-pos n (λ i. f (suc i)))

pub sum-le : (n : ℕ) (f g : ℕ → ℤ) → ((i : ℕ) → i < n → f i ≤ℤ g i) → sum n f ≤ℤ sum n g
unfolding sum
sum-le zero f g h = omega (arith, ints)
sum-le (suc n) f g h = let e = sum-le n (λ i. f (suc i)) (λ i. g (suc i)) (λ i k. h (suc i) (omega arith)) in omega (arith, linear, h 0 (omega arith))

pub sum-abs : (n : ℕ) (f : ℕ → ℤ) → nat_abs (sum n f) ≤ total n (λ i. nat_abs (f i))
unfolding sum total
sum-abs zero f = omega arith
sum-abs (suc n) f = let e = sum-abs n (λ i. f (suc i)) in omega (arith, triangle (f 0) (sum n (λ i. f (suc i))))
