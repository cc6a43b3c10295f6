use Rattle.std.proofs.Common.{◌≡◌, ℕ, List, length, drop, Ok, Err, Result, sym, ap, ◌∙◌, subst, arith}
use Rattle.std.proofs.lemmas.List.{take_rest, length-map, length-drop}
use Rattle.std.proofs.lemmas.Result.{err_from_is_err_and}
use Rattle.tube.specs.declared.call.Reply.{Reply}
use Rattle.plan.specs.declared.keep.Keep.{Keep}
use Rattle.plan.specs.declared.plan.Plan.{Plan}
use Rattle.plan.specs.declared.writer.Full.{Full}
use Rattle.plan.specs.declared.writer.Writer.{Writer}
use Rattle.plan.specs.Keeps.{kept_list}
use Rattle.report.specs.Pages.{PutsAll}
use Rattle.report.specs.Replies.{Limited, told_lines}
use Rattle.report.proofs.Reported.{answers_limited, answers-length, lines_are}
use Rattle.report.proofs.report.put_plan.Goals as goal

-- lines that were put by answers, by what these are equal to
put_same : (text : List ℕ) (p : Plan) {rs rs' : List Reply} {lines : List (List ℕ)} → rs ≡ rs' → told_lines text (kept_list p.keeps) rs' p.steps.count ≡ lines
    → (before after : Writer) (r : Result (Unit {0}) Full) → PutsAll (told_lines text (kept_list p.keeps) rs p.steps.count) before after r → PutsAll lines before after r
put_same text p e l before after r h =
    subst (λ (ls : List (List ℕ)). PutsAll ls before after r) (ap (λ (rs : List Reply). told_lines text (kept_list p.keeps) rs p.steps.count) e ∙ l) h

-- the answers, by where the replies to the watches end
answers_from : {rs rs' : List Reply} {at at' : ℕ} → rs ≡ rs' → at ≡ at' → drop at rs ≡ drop at' rs'
answers_from e q = λ i. drop (q i) (e i)

-- the watches' replies are no more than all
pub slice_bounds-put_lines-count : goal.slice_bounds-put_lines-count
slice_bounds-put_lines-count g c =
    let laws = g.met.D.Domain.lawful in
    let f = g.D.Domain.form c.args.domain in
    let fits = g.met.D.Domain.kept c.args.domain in
    let e = answers_from (c.deref.ensures.value ∙ c.in_ok-replies.ensures) (c.count.ensures.items ∙ sym (length-map (kept_list c.args.plan.now.keeps) (λ (k : Keep). k.keep_out))) in
    omega (arith, answers-length laws f fits c.args.text.now c.args.plan.now, ap length e, length-drop c.count.result c.deref.result.now)

pub slice_bounds-put_lines-start : goal.slice_bounds-put_lines-start
slice_bounds-put_lines-start g c =
    let laws = g.met.D.Domain.lawful in
    let f = g.D.Domain.form c.args.domain in
    let fits = g.met.D.Domain.kept c.args.domain in
    let e = answers_from (c.deref.ensures.value ∙ c.in_ok-replies.ensures) (c.count.ensures.items ∙ sym (length-map (kept_list c.args.plan.now.keeps) (λ (k : Keep). k.keep_out))) in
    omega (arith, answers-length laws f fits c.args.text.now c.args.plan.now, ap length e, length-drop c.count.result c.deref.result.now)

pub put_lines-requires : goal.put_lines-requires
put_lines-requires g c =
    let e = take_rest c.deref.result.now c.count.result ∙ answers_from (c.deref.ensures.value ∙ c.in_ok-replies.ensures) (c.count.ensures.items ∙ sym (length-map (kept_list c.args.plan.now.keeps) (λ (k : Keep). k.keep_out))) in
    let laws = g.met.D.Domain.lawful in
    let f = g.D.Domain.form c.args.domain in
    let fits = g.met.D.Domain.kept c.args.domain in
    record {
      room = c.requires.room;
      whole = answers-length laws f fits c.args.text.now c.args.plan.now ∙ ap length (sym e);
      limited = subst Limited (sym e) (answers_limited laws f fits c.args.text.now c.args.plan.now);
    }

-- the lines of the answers are those of the report
pub returns-in_err-put_lines : goal.returns-in_err-put_lines
returns-in_err-put_lines g c =
    let e = take_rest c.deref.result.now c.count.result ∙ answers_from (c.deref.ensures.value ∙ c.in_ok-replies.ensures) (c.count.ensures.items ∙ sym (length-map (kept_list c.args.plan.now.keeps) (λ (k : Keep). k.keep_out))) in
    let f = g.D.Domain.form c.args.domain in
    let l = lines_are g.met.D.Domain.lawful f (g.met.D.Domain.kept c.args.domain) c.args.text.now c.args.plan.now in
    let p = err_from_is_err_and c.from_residual-in_err-put_lines.result c.from_residual-in_err-put_lines.ensures.1 in
    rw (p.1, p.2)
    record {
      lent = c.in_err-put_lines.ensures.lent;
      lines = put_same c.args.text.now c.args.plan.now e l c.args.out.now c.put_lines.new.out (Err c.in_err-put_lines.field-0.0) c.in_err-put_lines.ensures.lines;
    }

pub returns : goal.returns
returns g c =
    let e = take_rest c.deref.result.now c.count.result ∙ answers_from (c.deref.ensures.value ∙ c.in_ok-replies.ensures) (c.count.ensures.items ∙ sym (length-map (kept_list c.args.plan.now.keeps) (λ (k : Keep). k.keep_out))) in
    let f = g.D.Domain.form c.args.domain in
    let l = lines_are g.met.D.Domain.lawful f (g.met.D.Domain.kept c.args.domain) c.args.text.now c.args.plan.now in
    record {
      lent = c.in_ok-put_lines.ensures.lent;
      lines = put_same c.args.text.now c.args.plan.now e l c.args.out.now c.put_lines.new.out (Ok c.in_ok-put_lines.field-0) c.in_ok-put_lines.ensures.lines;
    }
