-- How a text is cut into lines, and a line into fields.
use Rattle.std.specs.Prelude.{ℕ, cond, List, [], ◌∷◌, Some, None, Option, ◌==◌}
use Rattle.std.specs.Borrow.{Bor}

abbrev pub longer_line : ℕ → Option (List ℕ × List ℕ) → Option (List ℕ × List ℕ)
longer_line b None = None
longer_line b (Some p) = Some (b ∷ p.0, p.1)

-- the first line, without its end, and what follows it; absent where no line end is left
abbrev pub line_of : List ℕ → Option (List ℕ × List ℕ)
line_of [] = None
line_of (b ∷ bs) = cond (b == 10) (Some ([], bs)) (longer_line b (line_of bs))

abbrev pub longer_field : ℕ → List (List ℕ) → List (List ℕ)
longer_field b [] = (b ∷ []) ∷ []
longer_field b (f ∷ fs) = (b ∷ f) ∷ fs

-- the fields of a line: what its tabs part
abbrev pub fields_of : List ℕ → List (List ℕ)
fields_of [] = [] ∷ []
fields_of (b ∷ bs) = cond (b == 9) ([] ∷ fields_of bs) (longer_field b (fields_of bs))

-- the fields that are left: past a line's end none is
abbrev pub fields_left : Option (Bor (List ℕ)) → List (List ℕ)
fields_left None = []
fields_left (Some rest) = fields_of rest.now
