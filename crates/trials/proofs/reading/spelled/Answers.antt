use Rattle.std.proofs.Common.{◌≡◌, ℕ, List, ◌++◌, sym, ap, ◌∙◌, append_assoc, append-nil, add-one, arith}
use Rattle.trials.specs.Texts.{repeated}
use Rattle.trials.proofs.reading.spelled.Goals as goal

pub loop-init : goal.loop-init
unfolding repeated
loop-init c =
    let more = λ (t : List ℕ) (xs : List ℕ). xs ++ t in
    let k = c.args.case.now in
    let e1 = c.in_ok-push_str.ensures.bytes ∙ ap (more k.rows.now) c.new-text.ensures.bytes in
    let e2 = c.in_ok-push_str-2.ensures.bytes ∙ ap (more k.gusts.now) e1 in
    c.in_ok-push_str-3.ensures.bytes ∙ ap (more k.starts.now) e2 ∙ sym (append-nil ((k.rows.now ++ k.gusts.now) ++ k.starts.now))

pub loop-preserved : goal.loop-preserved
unfolding repeated
loop-preserved c =
    let k = c.args.case.now in
    let n = c.loop.counter in
    let head = (k.rows.now ++ k.gusts.now) ++ k.starts.now in
    c.in_ok-push_str-4.ensures.bytes ∙ ap (λ (xs : List ℕ). xs ++ k.keep.now) c.loop.invariant
    ∙ append_assoc head (repeated n k.keep.now) k.keep.now ∙ ap (λ (j : ℕ). head ++ repeated j k.keep.now) (sym (add-one n))

pub returns : goal.returns
returns c =
    let k = c.args.case.now in
    let e : c.loop.counter ≡ k.times = omega arith in
    c.in_ok-push_str-5.ensures.bytes
    ∙ ap (λ (xs : List ℕ). xs ++ k.tail.now) (c.loop.invariant ∙ ap (λ (j : ℕ). ((k.rows.now ++ k.gusts.now) ++ k.starts.now) ++ repeated j k.keep.now) e)
