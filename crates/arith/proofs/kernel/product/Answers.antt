use Rattle.std.proofs.Common.{◌≡◌, ℕ, ◌+◌, [], ◌∷◌, ◌++◌, length, ℤ, pos, ◌+ℤ◌, ◌*ℤ◌, sym, refl, ap, ◌∙◌, ap₂, length-append, rules, w64, SFits}
use Rattle.std.specs.Int.{int_wrap}
use Rattle.std.proofs.lemmas.Slice.Zip.{zip_turn}
use Rattle.arith.specs.Sums.{part, sum}
use Rattle.arith.proofs.Sums.{sum_more}
use Rattle.arith.proofs.Wraps.{add-product}
use Rattle.arith.proofs.kernel.product.Goals as goal

pub loop-a-init : goal.loop-a-init
unfolding sum int_wrap
loop-a-init g c = refl

pub loop-a-preserved : goal.loop-a-preserved
loop-a-preserved g c =
    let f = λ (i : ℕ). part c.args.l i *ℤ part c.args.x i in
    let n = length c.loop-a.yielded in
    let turn = zip_turn c.args.l c.args.x c.loop-a.yielded c.into_iter-a-iterator.result c.loop-a.a-iterator c.next.new.self _ (search rules) (search rules) c.loop-a.yielded_by _ c.in-Some.is c.next.ensures.steps in
    let fa : SFits w64 c.in-Some.a.now = search rules in
    let fb : SFits w64 c.in-Some.b.now = search rules in
    let term : c.in-Some.a.now *ℤ c.in-Some.b.now ≡ f n = ap₂ ◌*ℤ◌ (turn.2 (pos 0)) (turn.3 (pos 0)) in
    let more : length (c.loop-a.yielded ++ (c.in-Some.a, c.in-Some.b) ∷ []) ≡ n + 1 = length-append c.loop-a.yielded _ in
    add-product _ (sum n f) _ _ (search rules) fa fb c.loop-a.invariant
    ∙ ap (int_wrap w64) (ap (λ (z : ℤ). sum n f +ℤ z) term ∙ sym (sum_more n f) ∙ ap (λ (k : ℕ). sum k f) (sym more))
