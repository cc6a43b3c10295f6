use Rattle.std.proofs.Common.{◌≡◌, ◌^◌, Bool, List, ℤ, pos, length, nat_le, nat_abs, sym, ap, ◌∙◌, rules}
use Rattle.std.specs.Bool.{then_some}
use Rattle.std.specs.List.{list_all}
use Rattle.arith.proofs.Sums.{list_all-every}
use Rattle.domains.specs.Box.{within}
use Rattle.domains.proofs.interval_box.checked.Goals as goal

-- the test of the eight limits, as the code makes it
tested : {b : Bool} (u : List ℤ) → length u ≡ 8 → b ≡ list_all (λ (z : ℤ). nat_le (nat_abs z) (2 ^ 30)) u → then_some b u ≡ then_some (within u) u
tested u e h = ap (λ (b : Bool). then_some b u) (h ∙ list_all-every (λ (z : ℤ). nat_le (nat_abs z) (2 ^ 30)) (pos 0) 8 u e)

pub returns-then-is_within : goal.returns-then-is_within
returns-then-is_within c = ap (λ (b : Bool). then_some b c.args.upper) (sym c.if-is_within.true) ∙ tested c.args.upper (search rules) c.is_within.ensures

pub returns-else-is_within : goal.returns-else-is_within
returns-else-is_within c = ap (λ (b : Bool). then_some b c.args.upper) (sym c.if-is_within.false) ∙ tested c.args.upper (search rules) c.is_within.ensures
