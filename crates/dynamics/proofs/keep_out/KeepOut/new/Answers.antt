use Rattle.std.proofs.Common.{◌^◌, ◌≤◌, ℤ, pos, None, nat_abs, sym, refl, ap, ◌∙◌, subst}
use Rattle.std.proofs.lemmas.Result.{err_from_is_err_and}
use Rattle.arith.proofs.Bits.{back_is}
use Rattle.dynamics.specs.Ranges.{within}
use Rattle.dynamics.specs.Refusals.{ranged}
use Rattle.dynamics.proofs.Checks.{keep_out_exact, keep_out_entries, keep_out_threshold}
use Rattle.dynamics.proofs.keep_out.KeepOut.new.Goals as goal

pub returns-in_err-direction-clause-value : goal.returns-in_err-direction-clause-value
returns-in_err-direction-clause-value c =
    let p = err_from_is_err_and c.from_residual.result c.from_residual.ensures.1 in
    rw (p.1, p.2) (keep_out_entries c.args.entries c.args.threshold _ c.in_err-direction.ensures.value)

pub returns-in_err-check_ranges-clause-value : goal.returns-in_err-check_ranges-clause-value
returns-in_err-check_ranges-clause-value c =
    let r = c.from_residual-in_err-check_ranges in
    let p = err_from_is_err_and r.result r.ensures.1 in
    let n = c.within.ensures ∙ ap (within (pos (2 ^ 52))) (back_is c.args.threshold c.ranges.threshold) in
    rw (p.1, p.2) (keep_out_threshold c.args.entries c.args.threshold c.in_ok-direction.ensures.value.0 n refl ∙ c.in_err-check_ranges.ensures)

pub invariant_of-result : goal.invariant_of-result
invariant_of-result c =
    let t = c.args.threshold in
    let e = back_is t c.ranges.threshold in
    let o = keep_out_threshold c.args.entries t c.in_ok-direction.ensures.value.0 (c.within.ensures ∙ ap (within (pos (2 ^ 52))) e) refl ∙ ap (λ o. ranged o None) c.in_ok-check_ranges.ensures in
    record { limited = subst (λ (z : ℤ). nat_abs z ≤ 2 ^ 52) (sym e) ((keep_out_exact c.args.entries t).0 o).1 }
