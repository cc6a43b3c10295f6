-- The worked plan: its text, the plan that the text spells, and its report.
use Rattle.std.specs.Prelude.{ℕ, List, [], ◌∷◌, ℤ, pos, Some, codes}
use Rattle.plan.specs.Grammar.{line}
use Rattle.plan.specs.Plans.{Sheet}
use Rattle.report.specs.Report.{bytes}
use Rattle.zonotope.specs.Domain.{Standing}

-- a vector of four
abbrev pub four : ℤ → ℤ → ℤ → ℤ → List ℤ
four a b c d = a ∷ b ∷ c ∷ d ∷ []

abbrev pub zeros : List ℤ
zeros = four (pos 0) (pos 0) (pos 0) (pos 0)

abbrev pub text : List ℕ
text = bytes (
    line (codes "row" ∷ codes "1" ∷ codes "4096" ∷ codes "1024" ∷ codes "0" ∷ codes "0" ∷ [])
    ∷ line (codes "row" ∷ codes "2" ∷ codes "0" ∷ codes "2048" ∷ codes "0" ∷ codes "0" ∷ [])
    ∷ line (codes "row" ∷ codes "3" ∷ codes "0" ∷ codes "0" ∷ codes "0" ∷ codes "0" ∷ [])
    ∷ line (codes "row" ∷ codes "4" ∷ codes "0" ∷ codes "0" ∷ codes "0" ∷ codes "0" ∷ [])
    ∷ line (codes "gust" ∷ codes "1" ∷ codes "0" ∷ codes "4096" ∷ codes "0" ∷ codes "0" ∷ codes "0" ∷ codes "4" ∷ [])
    ∷ line (codes "gust" ∷ codes "2" ∷ codes "0" ∷ codes "0" ∷ codes "0" ∷ codes "0" ∷ codes "0" ∷ codes "0" ∷ [])
    ∷ line (codes "start" ∷ codes "1" ∷ codes "100" ∷ codes "8" ∷ [])
    ∷ line (codes "start" ∷ codes "2" ∷ codes "0" ∷ codes "8" ∷ [])
    ∷ line (codes "start" ∷ codes "3" ∷ codes "0" ∷ codes "0" ∷ [])
    ∷ line (codes "start" ∷ codes "4" ∷ codes "0" ∷ codes "0" ∷ [])
    ∷ line (codes "keep" ∷ codes "stop" ∷ codes "1" ∷ codes "0" ∷ codes "0" ∷ codes "0" ∷ codes "112" ∷ [])
    ∷ line (codes "keep" ∷ codes "lobe" ∷ codes "1" ∷ codes "0" ∷ codes "0" ∷ codes "0" ∷ codes "110" ∷ [])
    ∷ line (codes "steps" ∷ codes "1" ∷ []) ∷ [])

abbrev pub plan : Sheet
plan = record {
  loop = record {
    matrix = four (pos 4096) (pos 1024) (pos 0) (pos 0) ∷ four (pos 0) (pos 2048) (pos 0) (pos 0) ∷ zeros ∷ zeros ∷ [];
    gains = (pos 0 ∷ pos 0 ∷ []) ∷ (pos 4096 ∷ pos 0 ∷ []) ∷ (pos 0 ∷ pos 0 ∷ []) ∷ (pos 0 ∷ pos 0 ∷ []) ∷ [];
    centres = pos 0 ∷ pos 0 ∷ [];
    radii = pos 4 ∷ pos 0 ∷ [];
  };
  begin = record { centres = four (pos 100) (pos 0) (pos 0) (pos 0); radii = four (pos 8) (pos 8) (pos 0) (pos 0) };
  keeps =
      record { label = codes "stop"; entries = four (pos 1) (pos 0) (pos 0) (pos 0); threshold = pos 112 }
      ∷ record { label = codes "lobe"; entries = four (pos 1) (pos 0) (pos 0) (pos 0); threshold = pos 110 } ∷ [];
  steps = 1;
}

abbrev pub report : List ℕ
report = bytes (
    line (codes "step" ∷ codes "0" ∷ codes "92" ∷ codes "108" ∷ codes "-8" ∷ codes "8" ∷ codes "0" ∷ codes "0" ∷ codes "0" ∷ codes "0" ∷ [])
    ∷ line (codes "step" ∷ codes "1" ∷ codes "90" ∷ codes "110" ∷ codes "-8" ∷ codes "8" ∷ codes "0" ∷ codes "0" ∷ codes "0" ∷ codes "0" ∷ [])
    ∷ line (codes "keep" ∷ codes "stop" ∷ codes "clear" ∷ [])
    ∷ line (codes "keep" ∷ codes "lobe" ∷ codes "open" ∷ codes "1" ∷ []) ∷ [])

-- its zonotope after one step
abbrev pub standing : Standing
standing = record {
  shape = record {
    centre = four (pos 100) (pos 0) (pos 0) (pos 0);
    axis = four (pos 1) (pos 1) (pos 0) (pos 0);
    generators = four (pos 8) (pos 0) (pos 0) (pos 0) ∷ four (pos 2) (pos 4) (pos 0) (pos 0) ∷ zeros ∷ zeros ∷ four (pos 0) (pos 4) (pos 0) (pos 0) ∷ zeros ∷ [];
  };
  spread = Some (four (pos 2) (pos 2) (pos 0) (pos 0));
}
