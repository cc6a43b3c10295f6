use Rattle.std.proofs.Common.{ℕ, ◌-◌, List, length, Ok, sym, ap, ◌∙◌}
use Rattle.plan.specs.Readings.{cut_line, line_by}
use Rattle.plan.specs.Records.{fielded}
use Rattle.plan.specs.Values.{late_of, plain_keep}
use Rattle.plan.specs.declared.record.Record.{Record}
use Rattle.plan.proofs.Lates.{late_keep}
use Rattle.plan.proofs.lines.Lines.late.Goals as goal

pub returns-in_ok-keep_out-in-Keep-clause-value : goal.returns-in_ok-keep_out-in-Keep-clause-value
returns-in_ok-keep_out-in-Keep-clause-value c =
    let before = c.args.self.now in
    let k = c.in-Keep in
    let line = c.in_ok-line.line.now in
    let next = c.in_ok-line.next in
    ap (λ (t : List ℕ). line_by (late_of c.args.expected) before.number t) before.placed
    ∙ late_keep before.number (length before.text.now - length before.rest.now) before.text.now line next.rest.now next.number c.args.expected
    k.name.now c.in_ok-length-in-Keep.field-0.now k.entries.a.now k.entries.b.now k.entries.c.now k.entries.d.now k.threshold.now (plain_keep c.in_ok-keep_out-in-Keep.keep_out)
    (ap (cut_line before.number) (sym before.placed) ∙ c.in_ok-line.ensures.2 ∙ ap (λ (m : ℕ). Ok (line, m, next.rest.now)) (sym c.in_ok-line.ensures.1))
    (sym c.in_ok-name.ensures ∙ ap (λ (r : Record). Ok (fielded r)) k.is)
    (sym c.in_ok-length-in-Keep.ensures)
    (sym c.in_ok-keep_out-in-Keep.ensures)
