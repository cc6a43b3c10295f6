-- The interval of each part that a domain's bounds on the signed axes enclose.
use Rattle.std.specs.Prelude.{ℕ, List, [], ◌∷◌, ℤ, neg_ℤ, Some, None, Option}
use Rattle.domains.specs.declared.enclosure.Interval.{Interval}

-- from minus the bound on the negative axis to the bound on the positive one; absent if one is
abbrev pub interval : Option ℤ → Option ℤ → Option Interval
interval None high = None
interval (Some low) None = None
interval (Some low) (Some high) = Some (record { low = neg_ℤ low; high = high })

-- one more in front, absent if one is
abbrev pub add : Option Interval → Option (List Interval) → Option (List Interval)
add None rest = None
add (Some i) None = None
add (Some i) (Some rest) = Some (i ∷ rest)

-- the intervals of the four parts, by the bound b on each signed axis
abbrev pub enclosed : (ℕ → Option ℤ) → Option (List Interval)
enclosed b = add (interval (b 1) (b 0)) (add (interval (b 3) (b 2)) (add (interval (b 5) (b 4)) (add (interval (b 7) (b 6)) (Some []))))
