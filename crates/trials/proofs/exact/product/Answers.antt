use Rattle.std.proofs.Common.{◌≡◌, ℕ, length, pos, ◌+ℤ◌, ◌*ℤ◌, sym, ap, ◌∙◌, ap₂, arith, w64, SFits, rules}
use Rattle.std.proofs.lemmas.List.{length_push}
use Rattle.std.proofs.lemmas.Slice.Zip.{zip_turn, zip_end}
use mir.Syntax.{w128}
use Rattle.arith.specs.Sums.{part, sum}
use Rattle.arith.proofs.Bits.{back_is}
use Rattle.trials.proofs.Wide.{wide_is, sum_more}
use Rattle.trials.proofs.exact.product.Goals as goal

pub loop-entry-init : goal.loop-entry-init
unfolding sum
loop-entry-init g c = search rules

pub loop-entry-preserved : goal.loop-entry-preserved
loop-entry-preserved g c =
    let at = zip_turn c.args.l c.args.x c.loop-entry.yielded c.into_iter-entry-iterator.result c.loop-entry.entry-iterator c.next.new.self c.next.result (cc) (cc) c.loop-entry.yielded_by _ c.in-Some.is c.next.ensures.steps in
    let f : SFits w128 c.in_ok-sum.sum = search rules in
    let h : SFits w128 c.in_ok-checked_mul.field-0 = search rules in
    let p : SFits w128 c.from.result = search rules in
    let a : SFits w128 c.in-Some.entry.now = search rules in
    let b : SFits w64 c.in-Some.part.now = search rules in
    wide_is _ f ∙ c.in_ok-sum.ensures.1
    ∙ ap₂ ◌+ℤ◌ c.loop-entry.invariant (wide_is _ h ∙ c.in_ok-checked_mul.ensures.1 ∙ ap₂ ◌*ℤ◌ (wide_is _ a ∙ at.2 (pos 0)) (wide_is _ p ∙ c.from.ensures ∙ back_is _ b ∙ at.3 (pos 0)))
    ∙ sym (sum_more (length c.loop-entry.yielded) _ (λ i. part c.args.l i *ℤ part c.args.x i) (length_push c.loop-entry.yielded _))

pub returns : goal.returns
returns g c =
    let l : length c.args.l ≡ g.row.N = search rules in
    let x : length c.args.x ≡ g.row.N = search rules in
    let end = zip_end c.args.l c.args.x c.loop-entry.yielded c.into_iter-entry-iterator.result c.loop-entry.entry-iterator c.next.new.self c.next.result (cc) (cc) c.loop-entry.yielded_by c.in-None.is c.next.ensures.steps in
    let n : length c.loop-entry.yielded ≡ g.row.N = omega (arith, end) in
    c.loop-entry.invariant ∙ ap (λ (n : ℕ). sum n (λ i. part c.args.l i *ℤ part c.args.x i)) n
