use Rattle.std.proofs.Common.{◌^◌, ◌<◌, rules}
use Rattle.report.proofs.Sizes.{refusal_short}
use Rattle.report.proofs.report.put_refusal.Goals as goal

pub returns : goal.returns
returns c =
    let t = c.args.told in
    let a : t.number < 2 ^ 64 = search rules in
    let b : t.line < 2 ^ 64 = search rules in
    let d : t.field < 2 ^ 64 = search rules in
    let e : t.place < 2 ^ 64 = search rules in
    record { put = c.refused.ensures; short = refusal_short t a b d e }
