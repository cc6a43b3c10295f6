use Rattle.std.proofs.Common.{ℕ, List, ◌∷◌, [], length, take, refl, sym, ap, ◌∙◌, subst, length-append, rules, arith}
use Rattle.std.proofs.lemmas.Result.{err_from_is_err_and}
use Rattle.std.proofs.lemmas.Slice.Zip.{zip_turn, zip_end}
use Rattle.plan.specs.Keeps.{kept_list}
use Rattle.plan.specs.Report.{Added, KeptOut}
use Rattle.tube.specs.declared.call.Reply.TheVariants.{Watched}
use Rattle.report.specs.Replies.{told_keeps, finding_in}
use Rattle.report.specs.Report.{bytes}
use Rattle.report.proofs.Putting.{none-put, one-put, not_put, all_put}
use Rattle.report.proofs.Told.{keeps_length, keep_told}
use Rattle.report.proofs.lines.put_keeps.Goals as goal

pub loop-keep-init : goal.loop-keep-init
loop-keep-init c = (none-put _ _ c.requires.room, refl)

pub returns-in_err-put_keep : goal.returns-in_err-put_keep
returns-in_err-put_keep c =
    let ks = kept_list c.args.keeps.now in
    let found = c.args.found.now in
    let n = length c.loop-keep.yielded in
    let turn = zip_turn ks found c.loop-keep.yielded c.into_iter-keep-iterator.result c.loop-keep.keep-iterator c.next.new.self _ (search rules) (search rules) c.loop-keep.yielded_by _ c.in-Some.is c.next.ensures.steps in
    let e = keep_told c.args.text.now ks found n c.in-Some.keep.now _ _ turn.0 (turn.2 _) c.part.ensures (c.finding_in.ensures ∙ ap finding_in (turn.3 Watched)) in
    let q = subst (λ (t : List ℕ). KeptOut c.loop-keep.out.buf.now c.loop-keep.out.len t c.put_keep.new.out.buf.now c.put_keep.new.out.len) e c.in_err-put_keep.ensures.line in
    let p = err_from_is_err_and c.from_residual.result c.from_residual.ensures.1 in
    let h = turn.0 in
    rw p.1
    record {
      lent = c.in_err-put_keep.ensures.lent ∙ c.loop-keep.invariant.1;
      lines = not_put (told_keeps c.args.text.now ks found) _ _ n _ _ c.loop-keep.invariant.0 _ _ (omega (arith, keeps_length c.args.text.now ks found, h)) q;
    }

pub loop-keep-preserved : goal.loop-keep-preserved
loop-keep-preserved c =
    let ks = kept_list c.args.keeps.now in
    let found = c.args.found.now in
    let lines = told_keeps c.args.text.now ks found in
    let n = length c.loop-keep.yielded in
    let turn = zip_turn ks found c.loop-keep.yielded c.into_iter-keep-iterator.result c.loop-keep.keep-iterator c.next.new.self _ (search rules) (search rules) c.loop-keep.yielded_by _ c.in-Some.is c.next.ensures.steps in
    let e = keep_told c.args.text.now ks found n c.in-Some.keep.now _ _ turn.0 (turn.2 _) c.part.ensures (c.finding_in.ensures ∙ ap finding_in (turn.3 Watched)) in
    let q = subst (λ (t : List ℕ). Added c.loop-keep.out.buf.now c.loop-keep.out.len t c.put_keep.new.out.buf.now c.put_keep.new.out.len) e c.in_ok-put_keep.ensures.line in
    let more = length-append c.loop-keep.yielded ((c.in-Some.keep, c.in-Some.reply) ∷ []) in
    let h = turn.0 in (
      subst (λ (k : ℕ). Added c.args.out.now.buf.now c.args.out.now.len (bytes (take k lines)) c.put_keep.new.out.buf.now c.put_keep.new.out.len) (sym more)
          (one-put lines _ _ n _ _ c.loop-keep.invariant.0 _ _ (omega (arith, keeps_length c.args.text.now ks found, h)) q),
      c.in_ok-put_keep.ensures.lent ∙ c.loop-keep.invariant.1,
    )

pub returns : goal.returns
returns c =
    let ks = kept_list c.args.keeps.now in
    let found = c.args.found.now in
    let end = zip_end ks found c.loop-keep.yielded c.into_iter-keep-iterator.result c.loop-keep.keep-iterator c.next.new.self _ (search rules) (search rules) c.loop-keep.yielded_by c.in-None.is c.next.ensures.steps in
    record {
      lent = c.loop-keep.invariant.1;
      lines = all_put (told_keeps c.args.text.now ks found) _ _ (length c.loop-keep.yielded) _ _ (omega (arith, keeps_length c.args.text.now ks found, end, c.requires.whole)) c.loop-keep.invariant.0;
    }
