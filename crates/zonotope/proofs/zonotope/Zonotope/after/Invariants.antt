use Rattle.std.proofs.Common.{◌≡◌}
use Rattle.zonotope.specs.Forms.{form_of}
use Rattle.zonotope.specs.Tight
use Rattle.zonotope.proofs.zonotope.Zonotope.after.Given as goal

abbrev pub invariant-loop : goal.invariant-loop
invariant-loop l = form_of l.zonotope.stored ≡ Tight.after l.model l.start l.counter
