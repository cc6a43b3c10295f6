-- No held state lies beyond the bound.
use Rattle.std.specs.Prelude.{◌≡◌, ℕ, ◌+◌, ◌*◌, ◌≤◌, List, ℤ, pos, ◌+ℤ◌, ◌*ℤ◌, ◌≤ℤ◌, unsigned_abs}
use Rattle.std.proofs.Common.{sym, ap, ◌∙◌, mul-add, arith}
use Rattle.std.proofs.Math.Nat.{le_of_mul-le-mul_left}
use borrow.Author.Differences.{ints, up, down, at_most_in}
use Rattle.arith.proofs.Ring
use Rattle.arith.proofs.Ring.{linear}
use Rattle.arith.proofs.Order.{triangle, abs-mul-le}
use Rattle.arith.specs.Sums.{part}
use Rattle.arith.specs.Products.{dot, spanned}
use Rattle.arith.proofs.Dots.{dot_ext, dot-add, dot-mul, dot-zero, dot-size, spanned-mul}
use Rattle.zonotope.specs.Shape.{Shape, size, Within, within_none, within_more, combined, Held, reaches, bound}

combined-dot : (l : ℕ → ℤ) (n : ℕ) {bs : List ℤ} {gs : List (List ℤ)} → Within n bs gs → unsigned_abs (dot l (combined bs gs)) ≤ n * reaches l gs
combined-dot l n within_none = rw (dot-zero l) (omega arith)
combined-dot l n (within_more {b = b} {g = g} {bs = bs} {gs = gs} h r) =
    let e = dot-add l (λ i. b *ℤ part g i) (combined bs gs) in
    let e1 = dot-mul l b (part g) in
    let t = combined-dot l n r in
    let t1 = abs-mul-le b (dot l (part g)) n (unsigned_abs (dot l (part g))) h (omega arith) in
    rw (e, e1) (omega (arith, triangle (b *ℤ dot l (part g)) (dot l (combined bs gs)), mul-add n (unsigned_abs (dot l (part g))) (reaches l gs)))

-- an order between multiples
pub divided : (n : ℕ) (a b : ℤ) → 1 ≤ n → (pos n *ℤ a) ≤ℤ (pos n *ℤ b) → a ≤ℤ b
divided n a b h k =
    at_most_in a b (le_of_mul-le-mul_left {m = up a + down b} {n = up b + down a} {k = n}
    (omega (arith, ints, mul-add n (up a) (down b), mul-add n (up b) (down a))) h)

-- a held state in a direction
pub held_dot : (z : Shape) (x : ℕ → ℤ) (held : Held z x) (l : ℕ → ℤ) → pos held.scale *ℤ dot l x
    ≡ pos held.scale *ℤ dot l (part z.centre) +ℤ dot l (λ i. held.axial i *ℤ pos (size z.axis i)) +ℤ dot l (combined held.shares z.generators)
held_dot z x held l =
    sym (dot-mul l n x) ∙ dot_ext l (λ i. n *ℤ x i) (λ i. n *ℤ c i +ℤ f i +ℤ combined held.shares z.generators i) held.at
    ∙ dot-add l (λ i. n *ℤ c i +ℤ f i) (combined held.shares z.generators)
    ∙ ap (λ (t : ℤ). t +ℤ dot l (combined held.shares z.generators)) (dot-add l (λ i. n *ℤ c i) f ∙ ap (λ (t : ℤ). t +ℤ dot l f) (dot-mul l n c))
  where
    n : ℤ
    n = pos held.scale

    c : ℕ → ℤ
    c = part z.centre

    f : ℕ → ℤ
    f i = held.axial i *ℤ pos (size z.axis i)

pub bounding : (l : ℕ → ℤ) (z : Shape) (x : ℕ → ℤ) → Held z x → dot l x ≤ℤ bound l z
bounding l z x held =
    let e = held_dot z x held l in
    let t1 = dot-size l (λ i. held.axial i *ℤ pos (a i)) (λ i. n * a i)
    (λ i h. abs-mul-le (held.axial i) (pos (a i)) n (a i) (held.axial_within i h) (omega arith)) in
    let t2 = combined-dot l n held.shares_within in
    divided n (dot l x) (bound l z) held.some
    (omega (arith, linear, spanned-mul l n a, mul-add n (spanned l a) (reaches l gs), Ring.mul-add (pos n) (dot l (part z.centre)) (pos (spanned l a + reaches l gs))))
  where
    n : ℕ
    n = held.scale

    gs : List (List ℤ)
    gs = z.generators

    a : ℕ → ℕ
    a = size z.axis
