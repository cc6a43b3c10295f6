use Rattle.std.proofs.Common.{◌≡◌, count_by, take, ◌∙◌, arith, rules}
use Rattle.tube.proofs.Counted.{clear_row, clear_count_is}
use Rattle.tube.proofs.table.KeepOutTable.clear_count.Goals as goal

pub returns-clause-value : goal.returns-clause-value
returns-clause-value c =
    let t = c.args.self.now in
    let e : c.count.result ≡ count_by clear_row (take t.count t.rows) = search rules in
    e ∙ clear_count_is t.count t.rows (omega arith)
