use Rattle.std.proofs.Common.{◌≡◌, ℕ, ◌+◌, ◌^◌, ◌<◌, ◌≤◌, List, [], length, get_or, take, ℤ, pos, ◌+ℤ◌, neg_ℤ, nat_abs, sym, ap, ◌∙◌, subst, arith, lit<, w64, SFits}
use borrow.Author.Differences.{ints}
use Rattle.std.proofs.lemmas.List.{take_all}
use Rattle.arith.specs.Sums.{part}
use Rattle.arith.specs.Products.{dot}
use Rattle.arith.proofs.Bits.{back, fits_abs}
use Rattle.dynamics.specs.declared.direction.Direction.{Direction}
use Rattle.dynamics.specs.Values.{along}
use Rattle.zonotope.specs.declared.stored.Stored.{Stored}
use Rattle.zonotope.specs.Forms.{standing}
use Rattle.zonotope.specs.Shape.{sizes, reaches}
use Rattle.zonotope.specs.Grown.{reaches-next}
use Rattle.zonotope.specs.Reaches.{reaches_step}
use Rattle.zonotope.proofs.extent.reach.Goals as goal
use Rattle.zonotope.proofs.extent.reach.Goals.{After-abs-sum}

-- the product of a step, which fits
product_is : (l : List ℤ) (g : List ℤ) {k : List ℤ} {q : ℤ} (n : ℕ) → n + nat_abs (dot (part l) (part g)) ≤ 2 ^ 52 → k ≡ l → (SFits w64 (dot (part k) (part g)) → q ≡ dot (part k) (part g)) → q ≡ dot (part l) (part g)
product_is l g {k} {q} n h s e =
    subst (λ (k : List ℤ). SFits w64 (dot (part k) (part g)) → q ≡ dot (part k) (part g)) s e (fits_abs (dot (part l) (part g)) (2 ^ 52) (omega arith) (lit< tt))

turned : (d q : ℤ) (n : ℕ) → n + nat_abs d ≤ 2 ^ 52 → q ≡ d → SFits w64 (neg_ℤ (back q))
turned d q n h e = omega (arith, ints)

record Added (x t : ℤ) (n : ℕ) : Type 0 where
  fits : SFits w64 (x +ℤ back t)
  is : back (x +ℤ back t) ≡ pos n

added : (x t d q : ℤ) (n : ℕ) → n + nat_abs d ≤ 2 ^ 52 → q ≡ d → x ≡ pos n → t ≡ pos (nat_abs (back q)) → Added x t (n + nat_abs d)
added x t d q n h e f g = record { fits = omega (arith, ints); is = omega (arith, ints) }

-- what the step adds stays small
step-size : (l : Direction) (t : Stored) {gs : List (List ℤ)} (k : ℕ) → gs ≡ standing t.generators → k < length gs → reaches (along l) (take k gs) + nat_abs (dot (along l) (part (get_or gs k []))) ≤ 2 ^ 52
step-size l t {gs} k e h =
    reaches_step (along l) gs k l.limited (λ i q. subst (λ (gs : List (List ℤ)). sizes gs i ≤ 2 ^ 30) (sym e) (omega (arith, t.limited i q))) h

pub abs-sum-requires : goal.abs-sum-requires
abs-sum-requires c =
    let l = c.args.direction.now in
    let gs = c.as_slice-generator-items.result.now in
    let k = c.loop-generator.generator-index in
    let h = step-size l c.args.stored.now k c.as_slice-generator-items.ensures c.loop-generator-test.true in
    turned (dot (along l) (part (get_or gs k []))) c.product.result (reaches (along l) (take k gs)) h
    (product_is l.entries (get_or gs k []) (reaches (along l) (take k gs)) h c.entries-entries.ensures c.product.ensures.exact)

all : (c : After-abs-sum) {x : ℤ} → x ≡ pos (reaches (along c.args.direction.now) (take c.loop-generator.generator-index c.as_slice-generator-items.result.now))
    → Added x c.abs-sum.result (reaches (along c.args.direction.now) (take c.loop-generator.generator-index c.as_slice-generator-items.result.now) + nat_abs (dot (along c.args.direction.now) (part (get_or c.as_slice-generator-items.result.now c.loop-generator.generator-index []))))
all c e =
    let l = c.args.direction.now in
    let gs = c.as_slice-generator-items.result.now in
    let k = c.loop-generator.generator-index in
    let h = step-size l c.args.stored.now k c.as_slice-generator-items.ensures c.loop-generator-test.true in
    added _ c.abs-sum.result (dot (along l) (part (get_or gs k []))) c.product.result (reaches (along l) (take k gs)) h
    (product_is l.entries (get_or gs k []) (reaches (along l) (take k gs)) h c.entries-entries.ensures c.product.ensures.exact) e c.abs-sum.ensures.value

pub overflow_add-sum : goal.overflow_add-sum
overflow_add-sum c = (all c c.loop-generator.invariant).fits

pub loop-generator-preserved : goal.loop-generator-preserved
loop-generator-preserved c =
    (all c c.loop-generator.invariant).is ∙ ap pos (sym (reaches-next (along c.args.direction.now) c.as_slice-generator-items.result.now c.loop-generator.generator-index c.loop-generator-test.true))

pub returns : goal.returns
returns c =
    c.loop-generator.invariant
    ∙ ap (λ (gs : List (List ℤ)). pos (reaches (along c.args.direction.now) gs)) (take_all c.loop-generator.generator-index c.as_slice-generator-items.result.now c.loop-generator-test.false ∙ c.as_slice-generator-items.ensures)
