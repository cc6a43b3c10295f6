-- A fold keeps every held state.
use Rattle.std.specs.Prelude.{◌≡◌, ℕ, zero, suc, ◌+◌, ◌≤◌, List, [], ℤ, pos, ◌+ℤ◌, ◌*ℤ◌, slice_index_or, remove, unsigned_abs, refl}
use Rattle.std.proofs.Common.{mul-add, arith}
use Rattle.arith.proofs.Ring.{linear}
use Rattle.arith.proofs.Order.{abs-mul-le}
use Rattle.arith.specs.Sums.{part}
use Rattle.dynamics.specs.Values.{State}
use Rattle.zonotope.specs.Shape.{Shape, size, Within, within_none, within_more, combined, Held}
use Rattle.zonotope.specs.Fold.{folded, folds}
use Rattle.zonotope.specs.Choice.{lightest}
use Rattle.zonotope.specs.Spans.{size-listed}
use Rattle.zonotope.specs.Absorb.{absorbing}

combined-removed : (n p : ℕ) {bs : List ℤ} {gs : List (List ℤ)} → Within n bs gs → (i : ℕ)
    → combined bs gs i ≡ part bs p *ℤ part (slice_index_or gs p []) i +ℤ combined (remove bs p) (remove gs p) i
combined-removed n zero within_none i = refl
combined-removed n (suc p) within_none i = refl
combined-removed n zero (within_more h r) i = refl
combined-removed n (suc p) (within_more h r) i = let e = combined-removed n p r i in omega (arith, linear)

within-removed : (n p : ℕ) {bs : List ℤ} {gs : List (List ℤ)} → Within n bs gs → Within n (remove bs p) (remove gs p)
within-removed n zero within_none = within_none
within-removed n (suc p) within_none = within_none
within-removed n zero (within_more h r) = r
within-removed n (suc p) (within_more h r) = within_more h (within-removed n p r)

within_at : (n p : ℕ) {bs : List ℤ} {gs : List (List ℤ)} → Within n bs gs → unsigned_abs (part bs p) ≤ n
within_at n p within_none = omega arith
within_at n zero (within_more h r) = h
within_at n (suc p) (within_more h r) = within_at n p r

pub folding : (p : ℕ) (z : Shape) (x : State) → Held z x → Held (folded p z) x
unfolding folded
folding p z x held =
    absorbing (folded p z) x n (remove bs p) held.some (within-removed n p held.shares_within)
    (λ i h. rw (size-listed (λ i. size z.axis i + size (slice_index_or z.generators p []) i) i h)
    (let e = held.at i h in
    let s = combined-removed n p held.shares_within i in
    let t1 = abs-mul-le (held.axial i) (pos (size z.axis i)) n (size z.axis i) (held.axial_within i h) (omega arith) in
    let t2 = abs-mul-le (part bs p) (part (slice_index_or z.generators p []) i) n (unsigned_abs (part (slice_index_or z.generators p []) i)) (within_at n p held.shares_within) (omega arith) in
    omega (arith, linear, mul-add n (size z.axis i) (unsigned_abs (part (slice_index_or z.generators p []) i)))))
  where
    n : ℕ
    n = held.scale

    bs : List ℤ
    bs = held.shares

pub foldings : (n : ℕ) (z : Shape) (x : State) → Held z x → Held (folds n z) x
unfolding folds
foldings zero z x h = h
foldings (suc n) z x h = foldings n (folded (lightest z.generators) z) x (folding (lightest z.generators) z x h)
