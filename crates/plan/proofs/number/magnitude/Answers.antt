use Rattle.std.proofs.Common.{◌≡◌, ℕ, ◌-◌, ◌^◌, ◌<◌, ◌≤◌, false, ◌&&◌, ltb, List, length, get_or, take, drop, Err, sym, ◌∙◌, arith}
use native.Mathlib.Nat.{pow-le-pow_right}
use Rattle.std.proofs.lemmas.List.{at_drop_more}
use Rattle.std.proofs.lemmas.Bool.{cond-false}
use Rattle.std.proofs.lemmas.Bool.Decides.{nat_tests}
use Rattle.plan.specs.Numbers.{more, is_digit, fault_at}
use Rattle.plan.proofs.number.magnitude.Goals as goal
use Rattle.plan.proofs.number.magnitude.Goals.{then-i-ge15-via-then-i-ge15, then-i-ge15-via-else-i-ge15+then-not-is_ascii_digit}

-- at a byte that cannot stand the reading stops
stops : (field v left at : ℕ) (xs : List ℕ) (i : ℕ) → i < length xs → (ltb 0 left && is_digit (get_or xs i 0)) ≡ false → more field v left at (drop i xs) ≡ Err (fault_at field at)
stops field v left at xs i h e = at_drop_more (more field v left at) xs i 0 h ∙ cond-false _ _ _ e

below : (v k n : ℕ) → v < 10 ^ k → k ≤ n → v < 10 ^ n
below v k n h l = let p : 10 ^ k ≤ 10 ^ n = pow-le-pow_right (omega arith) l in omega arith

pub returns-then-i-ge15-clause-value : goal.returns-then-i-ge15-clause-value
returns-then-i-ge15-clause-value c =
    let i = c.loop-i.i in
    let rest = take (length c.args.digits.now - 1) (drop 1 c.args.digits.now) in
    let e : (ltb 0 (15 - i) && is_digit (get_or rest i 0)) ≡ false = elim c.then-i-ge15.branch [
      | then-i-ge15-via-then-i-ge15 w ↦ grind (arith, nat_tests)
      | then-i-ge15-via-else-i-ge15+then-not-is_ascii_digit w ↦ grind (arith, nat_tests)
    ] in
    sym (stops c.args.field c.loop-i.value (15 - i) _ rest i (omega arith) e) ∙ c.loop-i.invariant.reads

pub overflow_mul-value : goal.overflow_mul-value
overflow_mul-value c = let h = below _ _ 15 c.loop-i.invariant.small (omega arith) in omega arith

pub overflow_add-value : goal.overflow_add-value
overflow_add-value c = let h = below _ _ 15 c.loop-i.invariant.small (omega arith) in omega arith

pub returns-clause-small : goal.returns-clause-small
returns-clause-small c = below _ _ 16 c.loop-i.invariant.small (omega arith)
