use Rattle.std.proofs.Common.{ℕ, ◌^◌, ◌<◌, ◌≤◌, List, ℤ, pos, nat_abs, sym, ap, ◌∙◌, subst, lit<}
use Rattle.arith.specs.Sums.{part}
use Rattle.arith.specs.Products.{times_column}
use Rattle.arith.proofs.Bridge.{four-listed}
use Rattle.arith.proofs.Sums.{listed_at}
use Rattle.dynamics.specs.Runs.{image}
use Rattle.dynamics.specs.Values.{loop, push}
use Rattle.trials.proofs.Images.{Added, turned_size, pushed_size, turned_is, pushed_is, part-added}
use Rattle.trials.proofs.successor.image.Goals as goal
use Rattle.trials.proofs.successor.image.Goals.{After-times_column-pushed}

all : (c : After-times_column-pushed) (i : ℕ) → i < 4
    → Added (part c.times_column-turned.result i) (part c.times_column-pushed.result i) (image c.args.model.now (part c.args.x) (part c.args.gusts) i)
all c =
    let m = c.args.model.now in
    let x = c.args.x in
    let d = c.args.gusts in
    part-added _ _ (times_column 4 (loop m) (part x)) (times_column 2 (push m) (part d))
    (turned_is m x c.matrix.ensures c.requires.near c.times_column-turned.ensures.exact)
    (pushed_is m d c.gains.ensures c.requires.calm c.times_column-pushed.ensures.exact)
    (turned_size m x c.requires.near) (pushed_size m d c.requires.calm)

pub overflow_add-result : goal.overflow_add-result
overflow_add-result c = (all (goal.at.overflow_add-result c).After-times_column-pushed 0 (lit< tt)).fits

pub overflow_add-result-2 : goal.overflow_add-result-2
overflow_add-result-2 c = (all (goal.at.overflow_add-result-2 c).After-times_column-pushed 1 (lit< tt)).fits

pub overflow_add-result-3 : goal.overflow_add-result-3
overflow_add-result-3 c = (all (goal.at.overflow_add-result-3 c).After-times_column-pushed 2 (lit< tt)).fits

pub overflow_add-result-4 : goal.overflow_add-result-4
overflow_add-result-4 c = (all (goal.at.overflow_add-result-4 c).After-times_column-pushed 3 (lit< tt)).fits

pub returns : goal.returns
returns c =
    let a = all (goal.at.returns c).After-times_column-pushed in
    let f = image c.args.model.now (part c.args.x) (part c.args.gusts) in
    let a0 = a 0 (lit< tt) in
    let a1 = a 1 (lit< tt) in
    let a2 = a 2 (lit< tt) in
    let a3 = a 3 (lit< tt) in
    let e = four-listed f a0.fits a1.fits a2.fits a3.fits a0.is a1.is a2.is a3.is in
    record {
      value = e;
      small = λ i h. subst (λ (z : ℤ). nat_abs z ≤ 2 ^ 62) (sym (ap (λ (w : List ℤ). part w i) e ∙ listed_at 4 f (pos 0) i h)) (a i h).small;
    }
