use Rattle.std.proofs.Common.{Ok, Err, refl, ap, ◌∙◌, rules}
use Rattle.std.proofs.lemmas.Result.{err_from_is_err_and, IfOk-from_err}
use Rattle.plan.specs.declared.writer.Writer.{Writer}
use Rattle.report.proofs.Printing.{on_page, page_roomy, page_within}
use Rattle.report.proofs.Said.{sentence}
use Rattle.report.proofs.report.report.Goals as goal

pub returns-in_err-put_report : goal.returns-in_err-put_report
returns-in_err-put_report c =
    let text = c.args.text.now in
    let i = c.in_err-put_report.ensures in
    let p = err_from_is_err_and c.from_residual.result c.from_residual.ensures.1 in
    let before : Writer = record { buf = c.args.page; len = 0 } in
    let after = c.put_report.new.out in
    let r = Err c.in_err-put_report.field-0.0 in
    let e = p.1 ∙ ap Err p.2 in
    record {
      printed = on_page text before after r refl refl (search rules) e i.lines;
      within = IfOk-from_err c.from_residual.result _ c.from_residual.ensures.0;
      room = page_roomy text c.args.page.now after.buf.now c.from_residual.result i.law i.short (on_page text before after r refl refl refl e i.lines);
      law = i.law;
      sentence = λ s h. sentence s h.sound;
    }

pub returns : goal.returns
returns c =
    let text = c.args.text.now in
    let i = c.in_ok-put_report.ensures in
    record {
      printed = on_page text (record { buf = c.args.page; len = 0 }) c.put_report.new.out (Ok c.in_ok-put_report.field-0) refl refl (search rules) refl i.lines;
      within = page_within text c.args.page.now c.put_report.new.out.buf.now c.put_report.new.out.len i.law
          (on_page text (record { buf = c.args.page; len = 0 }) c.put_report.new.out (Ok c.in_ok-put_report.field-0) refl refl refl refl i.lines);
      room = λ k. tt;
      law = i.law;
      sentence = λ s h. sentence s h.sound;
    }
