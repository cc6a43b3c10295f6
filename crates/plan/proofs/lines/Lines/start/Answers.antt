use Rattle.std.proofs.Common.{◌≡◌, ℕ, ◌+◌, ◌^◌, ◌≤◌, List, [], ◌∷◌, ℤ, pos, nat_abs, ◌≤ℤ◌, Ok, sym, subst, arith, lit<}
use Rattle.arith.specs.Sums.{part}
use Rattle.arith.proofs.Bits.{back, back_is, fits_abs}
use Rattle.arith.proofs.Indices.{by4}
use Rattle.dynamics.specs.Limits.{StartLimits}
use Rattle.plan.specs.Readings.{line_by}
use Rattle.plan.specs.Values.{start_of}
use Rattle.plan.proofs.Inside.{line_by_ok, start_kept}
use Rattle.plan.proofs.lines.Lines.start.Goals as goal

abbrev Kept : ℤ → ℤ → Type 0
Kept p w = (pos 0 ≤ℤ w) × (nat_abs p + nat_abs w ≤ 2 ^ 30)

passed : (p w : ℤ) → Kept p w → Kept (back p) (back w)
passed p w k =
    let fp = back_is p (fits_abs p (2 ^ 30) (omega arith) (lit< tt)) in
    let fw = back_is w (fits_abs w (2 ^ 30) (omega arith) (lit< tt)) in
    subst (λ (z : ℤ). Kept z (back w)) (sym fp) (subst (λ (z : ℤ). Kept p z) (sym fw) k)

read : (i n : ℕ) (t : List ℕ) (p w : ℤ) (m : ℕ) (u : List ℕ) → line_by (start_of i) n t ≡ Ok ((p, w), m, u) → Kept (back p) (back w)
read i n t p w m u e = let k = line_by_ok (start_of i) n t ((p, w), m, u) e in passed p w (start_kept i k.0 (p, w) k.2)

limits : (p q r s a b c d : ℤ) → Kept p a → Kept q b → Kept r c → Kept s d → StartLimits (p ∷ q ∷ r ∷ s ∷ []) (a ∷ b ∷ c ∷ d ∷ [])
limits p q r s a b c d k l m n = (
  by4 (λ i. pos 0 ≤ℤ part (a ∷ b ∷ c ∷ d ∷ []) i) k.0 l.0 m.0 n.0,
  by4 (λ i. nat_abs (part (p ∷ q ∷ r ∷ s ∷ []) i) + nat_abs (part (a ∷ b ∷ c ∷ d ∷ []) i) ≤ 2 ^ 30) k.1 l.1 m.1 n.1,
)

pub unreachable-requires : goal.unreachable-requires
unreachable-requires c =
    let first = read 1 c.args.self.now.number c.args.self.now.rest.now c.in_ok-p1.p1 c.in_ok-p1.w1 _ _ c.in_ok-p1.ensures.value in
    let second = read 2 c.part.new.self.number c.part.new.self.rest.now c.in_ok-p2.p2 c.in_ok-p2.w2 _ _ c.in_ok-p2.ensures.value in
    let third = read 3 c.part-2.new.self.number c.part-2.new.self.rest.now c.in_ok-p3.p3 c.in_ok-p3.w3 _ _ c.in_ok-p3.ensures.value in
    let fourth = read 4 c.part-3.new.self.number c.part-3.new.self.rest.now c.in_ok-p4.p4 c.in_ok-p4.w4 _ _ c.in_ok-p4.ensures.value in
    let none = c.in_default.ensures.limits.1 (limits _ _ _ _ _ _ _ _ first second third fourth) in
    let some = c.in_default.ensures.value in
    let z : ◌≡◌ {A = ℕ} 0 1 = cc in
    omega arith
