-- What lists of watches and calls make of a tube, and what they are answered.
use Rattle.std.specs.Prelude.{cond, List, fold, nat_lt, slice_index_or}
use Rattle.std.specs.List.{scan}
use Rattle.dynamics.specs.declared.keep_out.KeepOut.{KeepOut}
use Rattle.dynamics.specs.declared.model.Model.{Model}
use Rattle.dynamics.specs.declared.start.Start.{Start}
use Rattle.domains.specs.Meaning.{Meaning}
use Rattle.tube.specs.declared.call.Call.{Call}
use Rattle.tube.specs.declared.call.Call.TheVariants.{Step, Bound, Finding as Ask}
use Rattle.tube.specs.declared.call.Reply.{Reply}
use Rattle.tube.specs.declared.call.Reply.TheVariants.{Watched, Stepped, Bounded, Found, Refused}
use Rattle.tube.specs.declared.fault.Fault.TheVariants.{WatchLimit, StepLimit, NoKeepOut}
use Rattle.tube.specs.Flights.{Flight, launched, stepped}
use Rattle.tube.specs.Rows.{blank}
use Rattle.tube.specs.Tables.{Table, empty_table, with_keep_out}

-- ---- watches
-- one keep-out more, refused where sixteen stand
abbrev pub watched : Table → KeepOut → Table
watched t k = cond (nat_lt t.count 16) (with_keep_out t k) t

abbrev pub watch_reply : Table → KeepOut → Reply
watch_reply t k = cond (nat_lt t.count 16) Watched (Refused WatchLimit)

abbrev pub watched_all : Table → List KeepOut → Table
watched_all = fold watched

abbrev pub watch_replies : Table → List KeepOut → List Reply
watch_replies = scan watched watch_reply

-- a launched tube that watched a list of keep-outs before
abbrev pub begun : {Form : Type 0} → Meaning Form → Start → Form → List KeepOut → Flight Form
begun d s f ks = launched d s f (watched_all empty_table ks)

-- ---- calls
-- a step is refused where 256 were taken; the other calls leave the tube as it is
abbrev pub called : {Form : Type 0} → Meaning Form → Model → Flight Form → Call → Flight Form
called d m t Step = cond (nat_lt t.steps 256) (stepped d m t) t
called d m t (Bound l) = t
called d m t (Ask n) = t

abbrev pub reply : {Form : Type 0} → Meaning Form → Flight Form → Call → Reply
reply d t Step = cond (nat_lt t.steps 256) Stepped (Refused StepLimit)
reply d t (Bound l) = Bounded (d.bounded l t.form)
reply d t (Ask n) = cond (nat_lt n t.table.count) (Found (slice_index_or t.table.rows n blank).finding) (Refused NoKeepOut)

abbrev pub after : {Form : Type 0} → Meaning Form → Model → Flight Form → List Call → Flight Form
after d m = fold (called d m)

abbrev pub replies : {Form : Type 0} → Meaning Form → Model → Flight Form → List Call → List Reply
replies d m = scan (called d m) (reply d)
