-- The format of a line: a word and fields, parted by tabs.
use Rattle.std.specs.Prelude.{ℕ, List, [], ◌∷◌, ◌++◌, codes}
use Rattle.plan.specs.declared.record.Kind.{Kind}
use Rattle.plan.specs.declared.record.Kind.TheVariants.{Row, Gust, Start, Keep, Steps}

-- fields, each after a tab
abbrev pub tabs : List (List ℕ) → List ℕ
tabs [] = []
tabs (f ∷ fs) = 9 ∷ (f ++ tabs fs)

-- fields parted by tabs
abbrev pub tabbed : List (List ℕ) → List ℕ
tabbed [] = []
tabbed (f ∷ fs) = f ++ tabs fs

-- a line with its end
abbrev pub line : List (List ℕ) → List ℕ
line fields = tabbed fields ++ (10 ∷ [])

-- the word that a record begins with
abbrev pub word : Kind → List ℕ
word Row = codes "row"
word Gust = codes "gust"
word Start = codes "start"
word Keep = codes "keep"
word Steps = codes "steps"
