-- The set of all states.
use Rattle.std.specs.Prelude.{None}
use Rattle.domains.specs.Meaning.{Meaning}

abbrev pub everything : Meaning (Unit {0})
everything = record {
  fits = λ f. Unit {0};
  holds = λ f x. Unit {0};
  filled = λ s f. f;
  advanced = λ m f. f;
  bounded = λ l f. None;
  trimmed = λ a t f. f;
}
