-- The eight signed axes in order.
use Rattle.std.specs.Prelude.{List, [], ◌∷◌}
use Rattle.std.proofs.Common.{lit<}
use Rattle.domains.specs.declared.axis.SignedAxis.{SignedAxis}

abbrev pub all_axes : List SignedAxis
all_axes =
    record { index = 0; eight = lit< tt } ∷ (record { index = 1; eight = lit< tt } ∷ (record { index = 2; eight = lit< tt } ∷ (record { index = 3; eight = lit< tt }
    ∷ (record { index = 4; eight = lit< tt } ∷ (record { index = 5; eight = lit< tt } ∷ (record { index = 6; eight = lit< tt } ∷ (record { index = 7; eight = lit< tt } ∷ [])))))))
