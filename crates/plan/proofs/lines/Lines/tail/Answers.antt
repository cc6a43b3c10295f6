use Rattle.std.proofs.Common.{◌≡◌, ℕ, suc, ◌-◌, List, map, Ok, sym, ap, ◌∙◌, arith, Bor}
use Rattle.std.proofs.lemmas.List.{map_push}
use Rattle.std.proofs.lemmas.Result.{err_from_is_err_and}
use Rattle.plan.specs.declared.late.Late.{Late}
use Rattle.plan.specs.Keeps.{kept, kept_list}
use Rattle.plan.specs.Plans.{tail_at, plain_late}
use Rattle.plan.proofs.Tails.{more_err, more_steps, more_keep, last_err, last_steps}
use Rattle.plan.proofs.lines.Lines.tail.Goals as goal

pub returns-in_err-keep : goal.returns-in_err-keep
returns-in_err-keep c =
    let p = err_from_is_err_and c.from_residual.result c.from_residual.ensures.1 in
    let n = c.loop-self.keeps.list.len in
    let room : 16 - n ≡ suc (15 - n) = omega arith in
    record {
      text = c.in_err-keep.ensures.text ∙ c.loop-self.invariant.0;
      value = rw (p.1, p.2) (sym c.loop-self.invariant.1 ∙ more_err _ _ _ (16 - n) (15 - n) _ room c.in_err-keep.ensures.value);
    }

pub loop-self-preserved : goal.loop-self-preserved
loop-self-preserved c =
    let n = c.loop-self.keeps.list.len in
    let room : 16 - n ≡ suc (15 - n) = omega arith in
    let less : 16 - c.push.new.self.list.len ≡ 15 - n = omega (arith, c.push.ensures.count) in
    let text = c.args.self.now.text in
    let keep = c.in-Keep.keep in
    let number = c.late.new.self.number in
    let rest = c.late.new.self.rest.now in
    let said = c.in_ok-keep.ensures.value
    ∙ ap (λ (l : Late). Ok (plain_late c.loop-self.self.text.now l, number, rest)) c.in-Keep.is
    ∙ ap (λ (t : Bor (List ℕ)). Ok (plain_late t.now (Late.Keep keep), number, rest)) c.loop-self.invariant.0 in (
      c.in_ok-keep.ensures.text ∙ c.loop-self.invariant.0,
      ap (λ (m : ℕ). tail_at m (map (kept text.now) (kept_list c.push.new.self)) number rest) less
          ∙ ap (λ ks. tail_at (15 - n) ks number rest) (ap (map (kept text.now)) c.push.ensures.items ∙ map_push (kept text.now) (kept_list c.loop-self.keeps) keep)
          ∙ sym (more_keep _ _ _ (16 - n) (15 - n) (kept text.now keep) _ _ room said)
          ∙ c.loop-self.invariant.1,
    )

pub returns-in-Steps : goal.returns-in-Steps
returns-in-Steps c =
    let n = c.loop-self.keeps.list.len in
    let room : 16 - n ≡ suc (15 - n) = omega arith in
    let said = c.in_ok-keep.ensures.value ∙ ap (λ (l : Late). Ok (plain_late c.loop-self.self.text.now l, c.late.new.self.number, c.late.new.self.rest.now)) c.in-Steps.is in
    record {
      text = c.in_ok-keep.ensures.text ∙ c.loop-self.invariant.0;
      value = sym c.loop-self.invariant.1 ∙ more_steps _ _ _ (16 - n) (15 - n) _ _ _ room said;
    }

pub returns-in_err-late : goal.returns-in_err-late
returns-in_err-late c =
    let p = err_from_is_err_and c.from_residual-in_err-late.result c.from_residual-in_err-late.ensures.1 in
    let room : 16 - c.loop-self.keeps.list.len ≡ 0 = omega arith in
    record {
      text = c.in_err-late.ensures.text ∙ c.loop-self.invariant.0;
      value = rw (p.1, p.2) (sym c.loop-self.invariant.1 ∙ last_err _ _ _ (16 - c.loop-self.keeps.list.len) _ room c.in_err-late.ensures.value);
    }

pub returns : goal.returns
returns c =
    let room : 16 - c.loop-self.keeps.list.len ≡ 0 = omega arith in
    let said = c.in_ok-late.ensures.value ∙ ap (λ (l : Late). Ok (plain_late c.loop-self.self.text.now l, c.late-2.new.self.number, c.late-2.new.self.rest.now)) c.in-Steps-2.is in
    record {
      text = c.in_ok-late.ensures.text ∙ c.loop-self.invariant.0;
      value = sym c.loop-self.invariant.1 ∙ last_steps _ _ _ (16 - c.loop-self.keeps.list.len) _ _ _ room said;
    }
