-- What tells the kinds of plans apart.
use Rattle.std.specs.Prelude.{ℕ, Bool, true, false, List, codes}
use Rattle.trials.specs.declared.kind.Kind.{Kind}
use Rattle.trials.specs.declared.kind.Kind.TheVariants.{Contracting, Neutral, Growing, Whole, FarStarts, StrongGusts, Steep, Extreme}

-- the name that is printed
abbrev pub name : Kind → List ℕ
name Contracting = codes "contracting"
name Neutral = codes "neutral"
name Growing = codes "growing"
name Whole = codes "whole rows"
name FarStarts = codes "far starts"
name StrongGusts = codes "strong gusts"
name Steep = codes "steep"
name Extreme = codes "extreme"

-- every row is whole
abbrev pub whole : Kind → Bool
whole Whole = true
whole _ = false

-- all sets stay bounded
abbrev pub tame : Kind → Bool
tame Steep = false
tame Extreme = false
tame _ = true

-- the size of the leading entry of each row, 0 where none leads
abbrev pub lead_size : Kind → ℕ
lead_size Neutral = 4096
lead_size Growing = 5596
lead_size _ = 0

-- the greatest size of the other entries, before they are made whole
abbrev pub other_size : Kind → ℕ
other_size Contracting = 900
other_size Neutral = 0
other_size Growing = 1500
other_size Whole = 1
other_size FarStarts = 900
other_size StrongGusts = 900
other_size Steep = 1048576
other_size Extreme = 1048576

-- the greatest size of the gains, before they are made whole
abbrev pub gain_size : Kind → ℕ
gain_size Whole = 1
gain_size Steep = 1048576
gain_size Extreme = 1048576
gain_size _ = 4096

-- the greatest size of a gust
abbrev pub gust_size : Kind → ℕ
gust_size Whole = 4
gust_size StrongGusts = 16777216
gust_size Steep = 50
gust_size Extreme = 16777216
gust_size _ = 200

-- the greatest size of a part at the start
abbrev pub start_size : Kind → ℕ
start_size Whole = 20
start_size FarStarts = 1073741824
start_size Steep = 100
start_size Extreme = 1073741824
start_size _ = 1100
