-- What the trials count.
use Rattle.std.specs.Prelude.{ℕ, ◌+◌, ◌-◌, ◌^◌, min, Bool, true, false, Some, None, Option}
use Rattle.trials.specs.declared.marks.Marks.{Marks}
use Rattle.trials.specs.declared.tally.Tally.{Tally}

-- all comparisons
abbrev pub total : Marks → ℕ
total m = m.held + m.failed + m.unmade

-- one comparison more
abbrev pub marked : Marks → Option Bool → Marks
marked m (Some true) = record { held = m.held + 1; failed = m.failed; unmade = m.unmade }
marked m (Some false) = record { held = m.held; failed = m.failed + 1; unmade = m.unmade }
marked m None = record { held = m.held; failed = m.failed; unmade = m.unmade + 1 }

-- all bounds that were looked up
abbrev pub looked : Tally → ℕ
looked t = t.present + t.absent

-- nothing seen
abbrev pub none : Tally
none = record { present = 0; absent = 0; escapes = 0; clear = 0; entered = 0 }

-- a sum that stops at the greatest number of 64 bits
abbrev pub capped : ℕ → ℕ → ℕ
capped a b = min (a + b) (2 ^ 64 - 1)

abbrev pub joined : Tally → Tally → Tally
joined s t = record {
  present = capped s.present t.present;
  absent = capped s.absent t.absent;
  escapes = capped s.escapes t.escapes;
  clear = capped s.clear t.clear;
  entered = capped s.entered t.entered;
}
