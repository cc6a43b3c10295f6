use Rattle.std.proofs.Common.{◌≡◌, ◌-◌, [], map}
use Rattle.plan.specs.Keeps.{kept, kept_list}
use Rattle.plan.specs.Plans.{tail_at}
use Rattle.plan.proofs.lines.Lines.tail.Given as goal

abbrev pub invariant-loop-self : goal.invariant-loop-self
invariant-loop-self l =
    (l.self.text ≡ l.initial.self.text)
    × (tail_at (16 - l.keeps.list.len) (map (kept l.initial.self.text.now) (kept_list l.keeps)) l.self.number l.self.rest.now
    ≡ tail_at 16 [] l.initial.self.number l.initial.self.rest.now)

abbrev pub decreases-loop-self : goal.decreases-loop-self
decreases-loop-self l = 16 - l.keeps.list.len
