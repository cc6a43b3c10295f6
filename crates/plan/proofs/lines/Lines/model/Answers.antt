use Rattle.std.proofs.Common.{◌≡◌, ℕ, arith}
use Rattle.plan.specs.Values.{gust_of}
use Rattle.plan.proofs.Inside.{line_by_ok, rows_kept, gust_kept, model_kept}
use Rattle.plan.proofs.lines.Lines.model.Goals as goal

pub unreachable-requires : goal.unreachable-requires
unreachable-requires c =
    let first = line_by_ok (gust_of 1) c.rows.new.self.number c.rows.new.self.rest.now _ c.in_ok-first.ensures.value in
    let second = line_by_ok (gust_of 2) c.channel.new.self.number c.channel.new.self.rest.now _ c.in_ok-second.ensures.value in
    let none = c.in_default.ensures.limits.1
    (model_kept c.in_ok-matrix.matrix c.in_ok-first.first c.in_ok-second.second
    (rows_kept c.args.self.now.number c.args.self.now.rest.now _ c.in_ok-matrix.ensures.value)
    (gust_kept 1 first.0 c.in_ok-first.first first.2) (gust_kept 2 second.0 c.in_ok-second.second second.2)) in
    let some = c.in_default.ensures.value in
    let z : ◌≡◌ {A = ℕ} 0 1 = cc in
    omega arith
