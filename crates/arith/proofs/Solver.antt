-- A solver for equations of the commutative ring of the whole numbers, by reflection: an equation between two expressions over
-- variables holds at every assignment where their normal forms, lists of coefficients and sorted products of variables, are the same.
use Rattle.std.proofs.Common.{◌≡◌, ℕ, zero, suc, Bool, true, false, eqb, ltb, List, [], ◌∷◌, ℤ, pos, negsuc, ◌+ℤ◌, ◌*ℤ◌, neg_ℤ, ◌≤ℤ◌, sym, refl, ap, ◌∙◌, ap₂, arith, eqb-true}
use lib.IntN.{+ℤ_assoc, +ℤ_idl, +ℤ_idr, zero-*ℤ, *ℤ-zero}
use borrow.Author.Differences.{ints}
use Rattle.arith.proofs.Ring.{add-mul, mul_assoc, neg-mul, neg-add, mul_left_comm, add_left_comm, sorting}

infixl 6 ◌:+◌ ◌:-◌
infixl 7 ◌:*◌
pub data Expr : Type 0 where
  var : ℕ → Expr
  lit : ℤ → Expr
  ◌:+◌ : Expr → Expr → Expr
  ◌:*◌ : Expr → Expr → Expr
  neg : Expr → Expr

abbrev pub ◌:-◌ : Expr → Expr → Expr
a :- b = a :+ neg b

abbrev pub value : List ℤ → ℕ → ℤ
value [] n = pos 0
value (x ∷ xs) zero = x
value (x ∷ xs) (suc n) = value xs n

-- what an expression means where the variable of number i is the i-th of the list
abbrev pub eval : List ℤ → Expr → ℤ
eval ρ (var n) = value ρ n
eval ρ (lit z) = z
eval ρ (a :+ b) = eval ρ a +ℤ eval ρ b
eval ρ (a :* b) = eval ρ a *ℤ eval ρ b
eval ρ (neg a) = neg_ℤ (eval ρ a)

-- a product of variables, in order
abbrev pub Mono : Type 0
Mono = List ℕ

pub record Term : Type 0 where
  pub by : ℤ
  pub of : Mono

abbrev pub Poly : Type 0
Poly = List Term

abbrev pub same_mono : Mono → Mono → Bool
same_mono [] [] = true
same_mono [] (y ∷ n) = false
same_mono (x ∷ m) [] = false
same_mono (x ∷ m) (y ∷ n) = elim (eqb x y) [ true ↦ same_mono m n | false ↦ false ]

abbrev pub less_mono : Mono → Mono → Bool
less_mono [] [] = false
less_mono [] (y ∷ n) = true
less_mono (x ∷ m) [] = false
less_mono (x ∷ m) (y ∷ n) = elim (ltb x y) [ true ↦ true | false ↦ elim (eqb x y) [ true ↦ less_mono m n | false ↦ false ] ]

abbrev pub put_var : ℕ → Mono → Mono
put_var x [] = x ∷ []
put_var x (y ∷ m) = elim (ltb y x) [ true ↦ y ∷ put_var x m | false ↦ x ∷ (y ∷ m) ]

abbrev pub mul_mono : Mono → Mono → Mono
mul_mono [] n = n
mul_mono (x ∷ m) n = put_var x (mul_mono m n)

abbrev pub put : ℤ → Mono → Poly → Poly
put k m [] = record { by = k; of = m } ∷ []
put k m (t ∷ p) = elim (same_mono m t.of) [
  | true ↦ record { by = k +ℤ t.by; of = t.of } ∷ p
  | false ↦ elim (less_mono m t.of) [ true ↦ record { by = k; of = m } ∷ (t ∷ p) | false ↦ t ∷ put k m p ]
]

abbrev pub add : Poly → Poly → Poly
add [] q = q
add (t ∷ p) q = put t.by t.of (add p q)

-- k m q + acc
abbrev pub mul_term : ℤ → Mono → Poly → Poly → Poly
mul_term k m [] acc = acc
mul_term k m (t ∷ q) acc = put (k *ℤ t.by) (mul_mono m t.of) (mul_term k m q acc)

abbrev pub mul : Poly → Poly → Poly
mul [] q = []
mul (t ∷ p) q = mul_term t.by t.of q (mul p q)

abbrev pub minus : Poly → Poly
minus [] = []
minus (t ∷ p) = record { by = neg_ℤ t.by; of = t.of } ∷ minus p

abbrev pub is_zero : ℤ → Bool
is_zero (pos n) = eqb n 0
is_zero (negsuc n) = false

abbrev pub clean : Poly → Poly
clean [] = []
clean (t ∷ p) = elim (is_zero t.by) [ true ↦ clean p | false ↦ t ∷ clean p ]

abbrev pub poly : Expr → Poly
poly (var n) = record { by = pos 1; of = n ∷ [] } ∷ []
poly (lit z) = record { by = z; of = [] } ∷ []
poly (a :+ b) = add (poly a) (poly b)
poly (a :* b) = mul (poly a) (poly b)
poly (neg a) = minus (poly a)

abbrev pub normal : Expr → Poly
normal e = clean (poly e)

-- ---- what they mean
abbrev mono_is : List ℤ → Mono → ℤ
mono_is ρ [] = pos 1
mono_is ρ (x ∷ m) = value ρ x *ℤ mono_is ρ m

abbrev poly_is : List ℤ → Poly → ℤ
poly_is ρ [] = pos 0
poly_is ρ (t ∷ p) = t.by *ℤ mono_is ρ t.of +ℤ poly_is ρ p

one-mul : (z : ℤ) → pos 1 *ℤ z ≡ z
one-mul z = omega (arith, ints)

mul-one : (z : ℤ) → z *ℤ pos 1 ≡ z
mul-one z = omega (arith, ints)

same_step : (x y : ℕ) (m n : Mono) → (same_mono m n ≡ true → m ≡ n) → (b : Bool) → eqb x y ≡ b
    → elim b [ true ↦ same_mono m n | false ↦ false ] ≡ true → x ∷ m ≡ y ∷ n
same_step x y m n ih true p q = ap₂ ◌∷◌ (eqb-true x y p) (ih q)
same_step x y m n ih false p q = cc

same_sound : (m n : Mono) → same_mono m n ≡ true → m ≡ n
same_sound [] [] e = refl
same_sound [] (y ∷ n) e = cc
same_sound (x ∷ m) [] e = cc
same_sound (x ∷ m) (y ∷ n) e = same_step x y m n (same_sound m n) (eqb x y) refl e

module _ (ρ : List ℤ) where
  put_var_sound : (x : ℕ) (m : Mono) → mono_is ρ (put_var x m) ≡ value ρ x *ℤ mono_is ρ m
  put_var_sound x [] = refl
  put_var_sound x (y ∷ m) = elim (ltb y x) as (λ b. mono_is ρ (elim b [ true ↦ y ∷ put_var x m | false ↦ x ∷ (y ∷ m) ]) ≡ value ρ x *ℤ (value ρ y *ℤ mono_is ρ m)) [
    | true ↦ ap (λ (z : ℤ). value ρ y *ℤ z) (put_var_sound x m) ∙ mul_left_comm (value ρ y) (value ρ x) (mono_is ρ m)
    | false ↦ refl
  ]

  mul_mono_sound : (m n : Mono) → mono_is ρ (mul_mono m n) ≡ mono_is ρ m *ℤ mono_is ρ n
  mul_mono_sound [] n = sym (one-mul (mono_is ρ n))
  mul_mono_sound (x ∷ m) n = put_var_sound x (mul_mono m n) ∙ ap (λ (z : ℤ). value ρ x *ℤ z) (mul_mono_sound m n) ∙ sym (mul_assoc (value ρ x) (mono_is ρ m) (mono_is ρ n))

  put_step : (k : ℤ) (m : Mono) (t : Term) (p : Poly) → poly_is ρ (put k m p) ≡ k *ℤ mono_is ρ m +ℤ poly_is ρ p
      → (b : Bool) → same_mono m t.of ≡ b
      → poly_is ρ (elim b [
        | true ↦ record { by = k +ℤ t.by; of = t.of } ∷ p
        | false ↦ elim (less_mono m t.of) [ true ↦ record { by = k; of = m } ∷ (t ∷ p) | false ↦ t ∷ put k m p ]
      ])
      ≡ k *ℤ mono_is ρ m +ℤ (t.by *ℤ mono_is ρ t.of +ℤ poly_is ρ p)
  put_step k m t p ih true e = rw (same_sound m t.of e) (simp (add-mul, +ℤ_assoc))
  put_step k m t p ih false e = elim (less_mono m t.of) as (λ b. poly_is ρ (elim b [ true ↦ record { by = k; of = m } ∷ (t ∷ p) | false ↦ t ∷ put k m p ])
      ≡ k *ℤ mono_is ρ m +ℤ (t.by *ℤ mono_is ρ t.of +ℤ poly_is ρ p)) [
        | true ↦ refl
        | false ↦ ap (λ (z : ℤ). t.by *ℤ mono_is ρ t.of +ℤ z) ih ∙ add_left_comm (t.by *ℤ mono_is ρ t.of) (k *ℤ mono_is ρ m) (poly_is ρ p)
      ]

  put_sound : (k : ℤ) (m : Mono) (p : Poly) → poly_is ρ (put k m p) ≡ k *ℤ mono_is ρ m +ℤ poly_is ρ p
  put_sound k m [] = refl
  put_sound k m (t ∷ p) = put_step k m t p (put_sound k m p) (same_mono m t.of) refl

  add_sound : (p q : Poly) → poly_is ρ (add p q) ≡ poly_is ρ p +ℤ poly_is ρ q
  add_sound [] q = sym (+ℤ_idl (poly_is ρ q))
  add_sound (t ∷ p) q = put_sound t.by t.of (add p q) ∙ ap (λ (z : ℤ). t.by *ℤ mono_is ρ t.of +ℤ z) (add_sound p q) ∙ sym (+ℤ_assoc (t.by *ℤ mono_is ρ t.of) (poly_is ρ p) (poly_is ρ q))

  mul_term_sound : (k : ℤ) (m : Mono) (q acc : Poly) → poly_is ρ (mul_term k m q acc) ≡ k *ℤ mono_is ρ m *ℤ poly_is ρ q +ℤ poly_is ρ acc
  mul_term_sound k m [] acc = sym (ap (λ (z : ℤ). z +ℤ poly_is ρ acc) (*ℤ-zero (k *ℤ mono_is ρ m)) ∙ +ℤ_idl (poly_is ρ acc))
  mul_term_sound k m (t ∷ q) acc =
      put_sound (k *ℤ t.by) (mul_mono m t.of) (mul_term k m q acc)
      ∙ rw (mul_mono_sound m t.of, mul_term_sound k m q acc) (shuffle k (mono_is ρ m) t.by (mono_is ρ t.of) (poly_is ρ q) (poly_is ρ acc))
    where
      shuffle : (k m j n q r : ℤ) → k *ℤ j *ℤ (m *ℤ n) +ℤ (k *ℤ m *ℤ q +ℤ r) ≡ k *ℤ m *ℤ (j *ℤ n +ℤ q) +ℤ r
      shuffle k m j n q r = simp sorting

  mul_sound : (p q : Poly) → poly_is ρ (mul p q) ≡ poly_is ρ p *ℤ poly_is ρ q
  mul_sound [] q = sym (zero-*ℤ (poly_is ρ q))
  mul_sound (t ∷ p) q = mul_term_sound t.by t.of q (mul p q) ∙ ap (λ (z : ℤ). t.by *ℤ mono_is ρ t.of *ℤ poly_is ρ q +ℤ z) (mul_sound p q) ∙ sym (add-mul (t.by *ℤ mono_is ρ t.of) (poly_is ρ p) (poly_is ρ q))

  minus_sound : (p : Poly) → poly_is ρ (minus p) ≡ neg_ℤ (poly_is ρ p)
  minus_sound [] = refl
  minus_sound (t ∷ p) = ap₂ ◌+ℤ◌ (neg-mul t.by (mono_is ρ t.of)) (minus_sound p) ∙ sym (neg-add (t.by *ℤ mono_is ρ t.of) (poly_is ρ p))

  drop-zero : (z m r s : ℤ) → is_zero z ≡ true → r ≡ s → r ≡ z *ℤ m +ℤ s
  drop-zero (pos n) m r s e h = h ∙ sym (rw (eqb-true n 0 e) (ap (λ (z : ℤ). z +ℤ s) (zero-*ℤ m) ∙ +ℤ_idl s))
  drop-zero (negsuc n) m r s e h = cc

  clean_step : (t : Term) (p : Poly) → poly_is ρ (clean p) ≡ poly_is ρ p → (b : Bool) → is_zero t.by ≡ b
      → poly_is ρ (elim b [ true ↦ clean p | false ↦ t ∷ clean p ]) ≡ t.by *ℤ mono_is ρ t.of +ℤ poly_is ρ p
  clean_step t p ih true e = drop-zero t.by (mono_is ρ t.of) (poly_is ρ (clean p)) (poly_is ρ p) e ih
  clean_step t p ih false e = ap (λ (z : ℤ). t.by *ℤ mono_is ρ t.of +ℤ z) ih

  clean_sound : (p : Poly) → poly_is ρ (clean p) ≡ poly_is ρ p
  clean_sound [] = refl
  clean_sound (t ∷ p) = clean_step t p (clean_sound p) (is_zero t.by) refl

  poly_sound : (e : Expr) → poly_is ρ (poly e) ≡ eval ρ e
  poly_sound (var n) = +ℤ_idr _ ∙ one-mul _ ∙ mul-one _
  poly_sound (lit z) = +ℤ_idr _ ∙ mul-one z
  poly_sound (a :+ b) = add_sound (poly a) (poly b) ∙ ap₂ ◌+ℤ◌ (poly_sound a) (poly_sound b)
  poly_sound (a :* b) = mul_sound (poly a) (poly b) ∙ ap₂ ◌*ℤ◌ (poly_sound a) (poly_sound b)
  poly_sound (neg a) = minus_sound (poly a) ∙ ap neg_ℤ (poly_sound a)

-- the two expressions are the same number at ρ where their normal forms, which antt computes, are the same: the last argument is `refl`
pub solve : (ρ : List ℤ) (l r : Expr) → normal l ≡ normal r → eval ρ l ≡ eval ρ r
solve ρ l r e = sym (clean_sound ρ (poly l) ∙ poly_sound ρ l) ∙ ap (poly_is ρ) e ∙ clean_sound ρ (poly r) ∙ poly_sound ρ r

-- an equation from another: a - b and c - d have the same normal form
pub solve_from : (ρ : List ℤ) (a b c d : Expr) → eval ρ c ≡ eval ρ d → normal (a :+ d) ≡ normal (b :+ c) → eval ρ a ≡ eval ρ b
solve_from ρ a b c d h e = moved (eval ρ a) (eval ρ b) (eval ρ c) (eval ρ d) h (solve ρ (a :+ d) (b :+ c) e)
  where
    moved : (a b c d : ℤ) → c ≡ d → a +ℤ d ≡ b +ℤ c → a ≡ b
    moved a b c d h e = omega (arith, ints)

-- an order from another, likewise
pub solve_le : (ρ : List ℤ) (a b c d : Expr) → eval ρ c ≤ℤ eval ρ d → normal (a :+ d) ≡ normal (b :+ c) → eval ρ a ≤ℤ eval ρ b
solve_le ρ a b c d h e = moved (eval ρ a) (eval ρ b) (eval ρ c) (eval ρ d) h (solve ρ (a :+ d) (b :+ c) e)
  where
    moved : (a b c d : ℤ) → c ≤ℤ d → a +ℤ d ≡ b +ℤ c → a ≤ℤ b
    moved a b c d h e = omega (arith, ints)
