use Rattle.std.proofs.Common.{◌≡◌, ℕ, ◌^◌, ◌≤◌, ℤ, nat_abs, sym, subst, arith, w64, SFits, rules}
use Rattle.arith.proofs.Bits.{back_is}
use Rattle.plan.proofs.Inside.{entries-kept, within-kept}
use Rattle.plan.proofs.values.keep_out.Goals as goal

pub unreachable-requires : goal.unreachable-requires
unreachable-requires c =
    let t = c.in_ok-threshold.threshold in
    let f : SFits w64 t = search rules in
    let v = entries-kept c.args.entries.a.now c.args.entries.b.now c.args.entries.c.now c.args.entries.d.now c.in_ok-entries.entries (sym c.in_ok-entries.ensures) in
    let h = within-kept 7 (2 ^ 52) c.args.threshold.now t (sym c.in_ok-threshold.ensures) in
    let none = c.in_default.ensures.limits.1 (v, subst (λ (z : ℤ). nat_abs z ≤ 2 ^ 52) (sym (back_is t f)) h) in
    let some = c.in_default.ensures.value in
    let z : ◌≡◌ {A = ℕ} 0 1 = cc in
    omega arith
