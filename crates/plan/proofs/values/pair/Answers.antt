use Rattle.std.proofs.Common.{◌≡◌, ℕ, ◌+◌, ◌^◌, ◌<◌, ◌≤◌, List, ℤ, pos, ◌-ℤ◌, neg_ℤ, nat_abs, Ok, Result, sym, ap, ◌∙◌, ap₂, arith, w64, SFits, to_z, rules}
use Rattle.std.proofs.lemmas.Int.{ints}
use Rattle.std.proofs.lemmas.Result.{err_from_is_err_and}
use Rattle.std.proofs.lemmas.Bool.{cond-true, cond-false, lt-ltb, le-ltb}
use Rattle.arith.proofs.Bits.{back, back_is}
use Rattle.dynamics.specs.Ranges.{too_large}
use Rattle.plan.specs.declared.faults.FieldFault.{FieldFault}
use Rattle.plan.specs.Fields.{ranged, within_field, up_to_field}
use Rattle.plan.specs.Values.{together}
use Rattle.plan.proofs.values.pair.Goals as goal

low : (limit : ℕ) → limit ≤ 2 ^ 30 → back (pos 0 -ℤ to_z w64 limit) ≡ neg_ℤ (pos limit)
low limit h = omega (arith, ints)

high : (limit : ℕ) → limit ≤ 2 ^ 30 → to_z w64 limit ≡ pos limit
high limit h = omega (arith, ints)

centred : (field limit : ℕ) (text : List ℕ) (r : Result ℤ FieldFault) → limit ≤ 2 ^ 30 → r ≡ ranged field (back (pos 0 -ℤ to_z w64 limit)) (to_z w64 limit) text → within_field field limit text ≡ r
centred field limit text r h e = ap₂ (λ (l m : ℤ). ranged field l m text) (sym (low limit h)) (sym (high limit h)) ∙ sym e

widened : (field limit : ℕ) (text : List ℕ) (r : Result ℤ FieldFault) → limit ≤ 2 ^ 30 → r ≡ ranged field (pos 0) (to_z w64 limit) text → up_to_field field limit text ≡ r
widened field limit text r h e = ap (λ (m : ℤ). ranged field (pos 0) m text) (sym (high limit h)) ∙ sym e

pub returns-in_err-centre : goal.returns-in_err-centre
returns-in_err-centre c =
    let p = err_from_is_err_and c.from_residual.result c.from_residual.ensures.1 in
    let e = centred c.args.field c.args.limit c.args.centre.now _ c.requires.0 c.in_err-centre.ensures in
    rw (p.1, p.2) (sym (ap (λ (r : Result ℤ FieldFault). together c.args.field c.args.limit r (up_to_field (c.args.field + 1) c.args.limit c.args.radius.now)) e))

pub returns-in_err-radius : goal.returns-in_err-radius
returns-in_err-radius c =
    let p = err_from_is_err_and c.from_residual-in_err-radius.result c.from_residual-in_err-radius.ensures.1 in
    let e = centred c.args.field c.args.limit c.args.centre.now _ c.requires.0 c.in_ok-centre.ensures in
    let f = widened (c.args.field + 1) c.args.limit c.args.radius.now _ c.requires.0 c.in_err-radius.ensures in
    rw (p.1, p.2) (sym (ap₂ (together c.args.field c.args.limit) e f))

pub returns-then-unsigned_abs-limit : goal.returns-then-unsigned_abs-limit
returns-then-unsigned_abs-limit c =
    let e = centred c.args.field c.args.limit c.args.centre.now _ c.requires.0 c.in_ok-centre.ensures in
    let f = widened (c.args.field + 1) c.args.limit c.args.radius.now _ c.requires.0 c.in_ok-radius.ensures in
    let p = c.in_ok-centre.centre in
    let w = c.in_ok-radius.radius in
    let fp : SFits w64 p = search rules in
    let fw : SFits w64 w = search rules in
    let a : c.unsigned_abs.result ≡ nat_abs p = c.unsigned_abs.ensures.value ∙ ap nat_abs (back_is p fp) in
    let b : c.unsigned_abs-2.result ≡ nat_abs w = c.unsigned_abs-2.ensures.value ∙ ap nat_abs (back_is w fw) in
    let t : c.args.limit < nat_abs p + nat_abs w = omega arith in
    sym (ap₂ (together c.args.field c.args.limit) e f ∙ cond-true (too_large c.args.limit p w) _ _ (lt-ltb _ _ t))

pub returns : goal.returns
returns c =
    let e = centred c.args.field c.args.limit c.args.centre.now _ c.requires.0 c.in_ok-centre.ensures in
    let f = widened (c.args.field + 1) c.args.limit c.args.radius.now _ c.requires.0 c.in_ok-radius.ensures in
    let p = c.in_ok-centre.centre in
    let w = c.in_ok-radius.radius in
    let fp : SFits w64 p = search rules in
    let fw : SFits w64 w = search rules in
    let a : c.unsigned_abs.result ≡ nat_abs p = c.unsigned_abs.ensures.value ∙ ap nat_abs (back_is p fp) in
    let b : c.unsigned_abs-2.result ≡ nat_abs w = c.unsigned_abs-2.ensures.value ∙ ap nat_abs (back_is w fw) in
    let t : nat_abs p + nat_abs w ≤ c.args.limit = omega arith in
    ap₂ (λ (x y : ℤ). Ok (x, y)) (back_is p fp) (back_is w fw) ∙ sym (ap₂ (together c.args.field c.args.limit) e f ∙ cond-false (too_large c.args.limit p w) _ _ (le-ltb _ _ t))
