-- What values that borrow from the text hold, as plain lists.
use Rattle.std.specs.Prelude.{ℕ, List, Ok, Err, Result}
use Rattle.std.specs.Borrow.{Bor}

-- a result shown by `show`
abbrev pub shown : {A B E : Type 0} → (A → B) → Result A E → Result B E
shown show (Ok x) = Ok (show x)
shown show (Err e) = Err e

abbrev pub borrowed : {E : Type 0} → Result (Bor (List ℕ)) E → Result (List ℕ) E
borrowed r = shown (λ x. x.now) r
