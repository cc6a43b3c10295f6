use Rattle.std.proofs.Common.{◌≡◌, ◌++◌, drop, vec_items}
use Rattle.tube.specs.Calls.{watched_all, watch_replies}
use Rattle.tube.specs.Tables.{table_of, ChangesOnlyTable}
use Rattle.tube.proofs.follow.watch_all.Given as goal

-- what is left of the watches gives the result
abbrev pub invariant-loop-keep_out : goal.invariant-loop-keep_out
invariant-loop-keep_out g l = record {
  table : watched_all (table_of l.tube.table) (drop l.keep_out-index l.watches) ≡ watched_all (table_of l.initial.tube.table) l.watches;
  replies : vec_items l.replies ++ watch_replies (table_of l.tube.table) (drop l.keep_out-index l.watches) ≡ vec_items l.initial.replies ++ watch_replies (table_of l.initial.tube.table) l.watches;
  others : ChangesOnlyTable l.initial.tube l.tube;
}
