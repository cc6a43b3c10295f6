use Rattle.std.proofs.Common.{◌≡◌, ℕ, Bool, IsTrue, List, ℤ, pos, IfSome, Some, None, Option, sym, ap, ◌∙◌, subst, w64, SFits, rules}
use mir.Syntax.{w128}
use Rattle.arith.specs.Sums.{part, listed}
use Rattle.arith.proofs.Bits.{back_is}
use Rattle.arith.proofs.Sums.{listed_at}
use Rattle.dynamics.specs.Values.{along}
use Rattle.dynamics.specs.Support.{exact}
use Rattle.trials.specs.Verdicts.{TightBound, TightAnswer}
use Rattle.trials.proofs.SupportNumbers.{exact_ext}
use Rattle.trials.proofs.Wide.{wide_is}
use Rattle.trials.proofs.tight.is_tight.Goals as goal

-- the same numbers, as they were passed
answer : (r : Option Bool) (k : ℕ) (e b a : ℤ) {e' b' a' : ℤ} {bound allowance : Option ℤ} → IfSome r (λ t. IsTrue t → TightBound k e' b' a')
    → e' ≡ e → b' ≡ b → a' ≡ a → bound ≡ Some b → allowance ≡ Some a → IfSome r (λ t. IsTrue t → TightAnswer k e bound allowance)
answer None k e b a h p q s u v = tt
answer (Some t) k e b a {e'} {b'} {a'} {bound} {allowance} h p q s u v = λ w.
    subst (λ (o : Option ℤ). TightAnswer k e o allowance) (sym u)
    (subst (λ (o : Option ℤ). TightAnswer k e (Some b) o) (sym v)
    (subst (λ (z : ℤ). TightBound k z b a) p (subst (λ (z : ℤ). TightBound k e' z a) q (subst (λ (z : ℤ). TightBound k e' b' z) s (h w)))))

pub returns : goal.returns
returns c =
    let d = along c.args.direction.now in
    let m = c.args.case.now.model in
    let s = c.args.case.now.start in
    let f : SFits w128 c.in_ok-exact.exact = search rules in
    let g : SFits w64 c.in_ok-bound.field-0 = search rules in
    let h : SFits w64 c.in_ok-allowance.field-0 = search rules in
    let e = wide_is _ f ∙ c.in_ok-exact.ensures ∙ ap (λ (xs : List ℤ). exact m s c.args.k (part xs)) c.widened.ensures
    ∙ exact_ext m s c.args.k (part (listed 4 d)) d (λ i q. listed_at 4 d (pos 0) i q) in
    answer c.is_between.result c.args.k (exact m s c.args.k d) c.in_ok-bound.field-0 c.in_ok-allowance.field-0 c.is_between.ensures
    e (back_is _ g) (back_is _ h) c.in_ok-bound.was c.in_ok-allowance.was
