use Rattle.std.proofs.Common.{◌≡◌, ◌++◌, drop, vec_items}
use Rattle.tube.specs.Calls.{after, replies}
use Rattle.tube.specs.Flights.{flight_of}
use Rattle.tube.proofs.follow.answer_all.Given as goal

-- what is left of the calls gives the result
abbrev pub invariant-loop-call : goal.invariant-loop-call
invariant-loop-call g l = record {
  flight : after g.D.Domain.sense l.initial.tube.model (flight_of g.D.Domain.form l.tube) (drop l.call-index l.calls) ≡ after g.D.Domain.sense l.initial.tube.model (flight_of g.D.Domain.form l.initial.tube) l.calls;
  replies : vec_items l.replies ++ replies g.D.Domain.sense l.initial.tube.model (flight_of g.D.Domain.form l.tube) (drop l.call-index l.calls)
      ≡ vec_items l.initial.replies ++ replies g.D.Domain.sense l.initial.tube.model (flight_of g.D.Domain.form l.initial.tube) l.calls;
  model : l.tube.model ≡ l.initial.tube.model;
}
