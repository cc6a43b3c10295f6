use Rattle.std.proofs.Common.{◌≡◌, ℕ, zero, suc, ◌-◌, ◌≤◌, List, [], length, take, drop, sym, refl, ap, ◌∙◌, ap₂, arith}
use Rattle.std.proofs.lemmas.List.{at_drop_all, take_all, take_rest}
use Rattle.plan.proofs.keep.Span.part.Goals as goal

take_nil : (n : ℕ) → ◌≡◌ {A = List ℕ} (take n []) []
take_nil zero = refl
take_nil (suc n) = refl

pub returns-then-start-text : goal.returns-then-start-text
returns-then-start-text c = sym (at_drop_all (take c.args.self.length) c.args.text.now c.args.self.start c.if-start-text.true ∙ take_nil c.args.self.length)

pub returns-then-length-rest : goal.returns-then-length-rest
returns-then-length-rest c =
    let text = c.args.text.now in
    let e = take_rest text c.args.self.start in
    let h : length (drop c.args.self.start text) ≤ c.args.self.length = omega (arith, ap length e, c.if-length-rest.true) in
    e ∙ sym (take_all c.args.self.length (drop c.args.self.start text) h)

pub returns : goal.returns
returns c =
    let all : c.args.self.length - 0 ≡ c.args.self.length = omega arith in
    ap₂ (λ (n : ℕ) (t : List ℕ). take n t) all (take_rest c.args.text.now c.args.self.start)
