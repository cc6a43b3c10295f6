use Rattle.std.proofs.Common.{◌≡◌, ℕ, length, ℤ, pos, ◌+ℤ◌, ◌*ℤ◌, List, sym, ap, ◌∙◌, ap₂, arith, w64, SFits, to_z, rules}
use Rattle.std.proofs.lemmas.List.{length_push}
use Rattle.std.proofs.lemmas.Slice.Zip.{zip_turn, zip_end}
use mir.Syntax.{w128}
use Rattle.arith.specs.Sums.{part, sum}
use Rattle.arith.proofs.Bits.{back_is}
use Rattle.dynamics.specs.Values.{along}
use Rattle.trials.proofs.Wide.{wide, wide_is, sum_more, Step, step}
use Rattle.trials.proofs.verdict.reach.Goals as goal
use Rattle.trials.proofs.verdict.reach.Goals.{After-from-in-loop-entry}

-- the product of this turn, and the sum with it
record Turn (c : After-from-in-loop-entry) : Type 0 where
  is : wide c.from.result *ℤ wide c.from-in-loop-entry.result ≡ along c.args.direction.now (length c.loop-entry.yielded) *ℤ part c.args.x (length c.loop-entry.yielded)
  fits : Step (to_z w128 c.loop-entry.reach-bits) (wide c.from.result *ℤ wide c.from-in-loop-entry.result) (length c.loop-entry.yielded)

turn : (c : After-from-in-loop-entry) → Turn c
turn c =
    let d = c.args.direction.now in
    let at = zip_turn c.entries-l.result c.args.x c.loop-entry.yielded c.into_iter-entry-iterator.result c.loop-entry.entry-iterator c.next.new.self c.next.result (cc) (cc) c.loop-entry.yielded_by _ c.in-Some.is c.next.ensures.steps in
    let n = length c.loop-entry.yielded in
    let f : SFits w128 c.from.result = search rules in
    let g : SFits w128 c.from-in-loop-entry.result = search rules in
    let a : SFits w64 c.in-Some.entry.now = search rules in
    let b : SFits w64 c.in-Some.part.now = search rules in
    let l : wide c.from.result ≡ along d n = wide_is _ f ∙ c.from.ensures ∙ back_is _ a ∙ at.2 (pos 0) ∙ ap (λ (xs : List ℤ). part xs n) c.entries-l.ensures in
    let x : wide c.from-in-loop-entry.result ≡ c.in-Some.part.now = wide_is _ g ∙ c.from-in-loop-entry.ensures ∙ back_is _ b in
    let four : length c.args.x ≡ 4 = search rules in
    record {
      is = ap₂ ◌*ℤ◌ l (x ∙ at.3 (pos 0));
      fits = step (to_z w128 c.loop-entry.reach-bits) (wide c.from.result *ℤ wide c.from-in-loop-entry.result) (along d n) c.in-Some.part.now n (omega (arith, at.1)) c.loop-entry.invariant.1
          (ap₂ ◌*ℤ◌ l x) (d.limited n (omega (arith, at.1))) b;
    }

pub loop-entry-init : goal.loop-entry-init
unfolding sum
loop-entry-init c = search rules

pub overflow_mul-reach : goal.overflow_mul-reach
overflow_mul-reach c = (turn c).fits.product

pub overflow_add-reach : goal.overflow_add-reach
overflow_add-reach c =
    let t = turn c in
    rw (wide_is _ t.fits.product) t.fits.sum

pub loop-entry-preserved : goal.loop-entry-preserved
loop-entry-preserved c =
    let t = turn c in
    let n = length c.loop-entry.yielded in
    let s = to_z w128 c.loop-entry.reach-bits in
    let q = wide c.from.result *ℤ wide c.from-in-loop-entry.result in
    let product : wide q ≡ q = wide_is q t.fits.product in
    let fits : SFits w128 (s +ℤ wide q) = rw product t.fits.sum in
    let is : wide (s +ℤ wide q) ≡ s +ℤ q = wide_is (s +ℤ wide q) fits ∙ ap (λ (z : ℤ). s +ℤ z) product in
    let m = length_push c.loop-entry.yielded (c.in-Some.entry, c.in-Some.part) in (
      is ∙ ap₂ ◌+ℤ◌ c.loop-entry.invariant.0 t.is ∙ sym (sum_more n _ (λ i. along c.args.direction.now i *ℤ part c.args.x i) m),
      rw (is, m) t.fits.small,
    )

pub returns : goal.returns
returns c =
    let l : length c.entries-l.result ≡ 4 = search rules in
    let x : length c.args.x ≡ 4 = search rules in
    let end = zip_end c.entries-l.result c.args.x c.loop-entry.yielded c.into_iter-entry-iterator.result c.loop-entry.entry-iterator c.next.new.self c.next.result (cc) (cc) c.loop-entry.yielded_by c.in-None.is c.next.ensures.steps in
    let n : length c.loop-entry.yielded ≡ 4 = omega (arith, end) in
    c.loop-entry.invariant.0 ∙ ap (λ (n : ℕ). sum n (λ i. along c.args.direction.now i *ℤ part c.args.x i)) n
