-- The order of the whole numbers under products, and their sizes.
use Rattle.std.proofs.Common.{◌≡◌, ℕ, suc, ◌+◌, ◌*◌, ◌≤◌, ℤ, pos, negsuc, ◌+ℤ◌, ◌-ℤ◌, ◌*ℤ◌, neg_ℤ, nat_abs, ◌≤ℤ◌, refl, mul-le-mul, mul-le-mul_left, arith}
use borrow.Author.Differences.{ints, le_out}

pub le_trans : (a b c : ℤ) → a ≤ℤ b → b ≤ℤ c → a ≤ℤ c
le_trans a b c h k = omega (arith, ints)

pub add-le : (a b c d : ℤ) → a ≤ℤ b → c ≤ℤ d → (a +ℤ c) ≤ℤ (b +ℤ d)
add-le a b c d h k = omega (arith, ints)

pub mul-le-pos : (n : ℕ) (a b : ℤ) → a ≤ℤ b → (pos n *ℤ a) ≤ℤ (pos n *ℤ b)
mul-le-pos n a b h = omega (arith, ints, mul-le-mul_left n (le_out a b h))

pub mul-le : (k a b : ℤ) → pos 0 ≤ℤ k → a ≤ℤ b → (k *ℤ a) ≤ℤ (k *ℤ b)
mul-le (pos n) a b p h = mul-le-pos n a b h
mul-le (negsuc n) a b p h = omega (arith, ints)

pub neg-abs : (z : ℤ) → nat_abs (neg_ℤ z) ≡ nat_abs z
neg-abs z = omega (arith, ints)

pub abs-mul : (a b : ℤ) → nat_abs (a *ℤ b) ≡ nat_abs a * nat_abs b
abs-mul (pos a) (pos b) = refl
abs-mul (pos a) (negsuc b) = neg-abs (pos (a * suc b))
abs-mul (negsuc a) (pos b) = neg-abs (pos (suc a * b))
abs-mul (negsuc a) (negsuc b) = refl

-- the size of a product
pub abs-mul-le : (a b : ℤ) (m n : ℕ) → nat_abs a ≤ m → nat_abs b ≤ n → nat_abs (a *ℤ b) ≤ m * n
abs-mul-le a b m n h k = rw (abs-mul a b) (mul-le-mul h k)

pub triangle : (a b : ℤ) → nat_abs (a +ℤ b) ≤ nat_abs a + nat_abs b
triangle a b = omega (arith, ints)

pub below_abs : (z : ℤ) → z ≤ℤ pos (nat_abs z)
below_abs z = omega (arith, ints)

pub above_neg-abs : (z : ℤ) → neg_ℤ (pos (nat_abs z)) ≤ℤ z
above_neg-abs z = omega (arith, ints)

-- the size of a number between -n and n
pub abs-le : (z : ℤ) (n : ℕ) → z ≤ℤ pos n → neg_ℤ z ≤ℤ pos n → nat_abs z ≤ n
abs-le z n h k = omega (arith, ints)

-- an order from another by an equation, which `solve` shows: for orders with too many products for `omega`
pub le_of : (a b c d : ℤ) → c ≤ℤ d → a +ℤ d ≡ b +ℤ c → a ≤ℤ b
le_of a b c d h e = omega (arith, ints)

pub le_plus : (a b s : ℤ) → pos 0 ≤ℤ s → a +ℤ s ≡ b → a ≤ℤ b
le_plus a b s h e = omega (arith, ints)

pub difference_le : (a b : ℤ) → a ≤ℤ b → pos 0 ≤ℤ (b -ℤ a)
difference_le a b h = omega (arith, ints)

pub product_nonneg : (a b : ℤ) → pos 0 ≤ℤ a → pos 0 ≤ℤ b → pos 0 ≤ℤ (a *ℤ b)
product_nonneg (pos a) (pos b) h k = omega (arith, ints)
product_nonneg (pos a) (negsuc b) h k = omega (arith, ints)
product_nonneg (negsuc a) b h k = omega (arith, ints)

pub square_nonneg : (a : ℤ) → pos 0 ≤ℤ (a *ℤ a)
square_nonneg (pos a) = omega (arith, ints)
square_nonneg (negsuc a) = omega (arith, ints)
