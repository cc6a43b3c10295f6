use Rattle.std.proofs.Common.{◌∙◌}
use Rattle.tube.specs.Calls.{watched, watch_reply}
use Rattle.tube.proofs.Sequences.{fold_turn, scan_turn, fold_end, scan_end}
use Rattle.tube.proofs.follow.watch_all.Goals as goal

pub loop-keep_out-preserved : goal.loop-keep_out-preserved
loop-keep_out-preserved g c =
    let i = c.loop-keep_out.keep_out-index in
    let k = c.keep_out-item.result in
    let o = c.loop-keep_out.invariant in
    let r = c.watch_one-reply.ensures in
    record {
      table = fold_turn watched watch_reply c.args.watches.now i _ _ _ k c.loop-keep_out-test.true c.keep_out-item.is r.table o.table;
      replies = scan_turn watched watch_reply c.args.watches.now i _ _ k c.watch_one-reply.result _ _ _ c.loop-keep_out-test.true c.keep_out-item.is r.table r.reply
          c.in_ok-push.ensures.items o.replies;
      others = record { model = r.others.model ∙ o.others.model; start = r.others.start ∙ o.others.start; domain = r.others.domain ∙ o.others.domain };
    }

pub returns : goal.returns
returns g c = record {
  table = fold_end watched watch_reply c.args.watches.now c.loop-keep_out.keep_out-index _ _ c.loop-keep_out-test.false c.loop-keep_out.invariant.table;
  others = c.loop-keep_out.invariant.others;
  replies = scan_end watched watch_reply c.args.watches.now c.loop-keep_out.keep_out-index _ _ _ c.loop-keep_out-test.false c.loop-keep_out.invariant.replies;
}
