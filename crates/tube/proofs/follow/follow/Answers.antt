use Rattle.std.proofs.Common.{◌≡◌, List, ◌++◌, take, ap, ◌∙◌}
use Rattle.dynamics.specs.declared.keep_out.KeepOut.{KeepOut}
use Rattle.dynamics.specs.declared.start.Start.{Start}
use Rattle.domains.specs.Meaning.{Meaning}
use Rattle.tube.specs.Calls.{watched_all, watch_replies, begun, after, replies}
use Rattle.tube.specs.Flights.{Flight, launched}
use Rattle.tube.specs.Summaries.{summary_of}
use Rattle.tube.specs.Tables.{Table, empty_table}
use Rattle.tube.proofs.Formed.{tube_tight}
use Rattle.tube.proofs.Keeping.{promise}
use Rattle.tube.proofs.follow.follow.Goals as goal

pub returns-in_err-watch_all-clause-promise : goal.returns-in_err-watch_all-clause-promise
returns-in_err-watch_all-clause-promise g c = λ k. promise g.met.D.Domain.lawful c.args.model c.args.start (g.D.Domain.form c.args.domain) (g.met.D.Domain.kept c.args.domain) c.args.watches.now (take k c.args.calls.now)

pub returns-in_err-watch_all-clause-tight : goal.returns-in_err-watch_all-clause-tight
returns-in_err-watch_all-clause-tight g c = tube_tight

pub returns-in_err-answer_all-clause-promise : goal.returns-in_err-answer_all-clause-promise
returns-in_err-answer_all-clause-promise g c = λ k. promise g.met.D.Domain.lawful c.args.model c.args.start (g.D.Domain.form c.args.domain) (g.met.D.Domain.kept c.args.domain) c.args.watches.now (take k c.args.calls.now)

pub returns-in_err-answer_all-clause-tight : goal.returns-in_err-answer_all-clause-tight
returns-in_err-answer_all-clause-tight g c = tube_tight

-- the launched tube, from the tube as it was opened and watched
begun_is : {F : Type 0} (d : Meaning F) (s : Start) (f : F) (ks : List KeepOut) {s' : Start} {f' : F} {t' : Table} {u : Flight F}
    → u ≡ launched d s' f' t' → s' ≡ s → f' ≡ f → t' ≡ watched_all empty_table ks → u ≡ begun d s f ks
begun_is d s f ks e p q r = e ∙ (λ i. launched d (p i) (q i) (r i))

pub returns : goal.returns
returns g c =
    let d = g.D.Domain.sense in
    let ks = c.args.watches.now in
    let cs = c.args.calls.now in
    let o = c.open-opened.ensures in
    let w = c.in_ok-watch_all.ensures in
    let a = c.in_ok-answer_all.ensures in
    let t = w.table ∙ ap (λ (t : Table). watched_all t ks) o.3 in
    let u = begun_is d c.args.start (g.D.Domain.form c.args.domain) ks c.launch-tube.ensures.flight (w.others.start ∙ o.1) (ap g.D.Domain.form (w.others.domain ∙ o.2)) t in
    let m = c.launch-tube.ensures.model ∙ w.others.model ∙ o.0 in
    let v = a.flight ∙ (λ i. after d (m i) (u i) cs) in
    record {
      promise = λ k. promise g.met.D.Domain.lawful c.args.model c.args.start (g.D.Domain.form c.args.domain) (g.met.D.Domain.kept c.args.domain) ks (take k cs);
      tight = tube_tight;
      replies = a.replies ∙ (λ i. (w.replies ∙ (λ j. c.new-replies.ensures.items j ++ watch_replies (o.3 j) ks)) i ++ replies d (m i) (u i) cs);
      summary = c.finish-summary.ensures ∙ ap summary_of v;
    }
