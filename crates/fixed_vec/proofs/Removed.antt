-- A list with one element taken out, as the library moves the later ones up by one place.
use Rattle.std.proofs.Common.{◌≡◌, ℕ, ◌+◌, ◌-◌, ◌<◌, ◌≤◌, List, length, get_or, take, sym, ap, ◌∙◌, ⊎_elim, arith}
use Rattle.std.specs.List.{remove}
use Rattle.std.proofs.lemmas.Bool.{cases_lt}
use Rattle.std.proofs.lemmas.List.{get_or-take, length-take-le, ext_get_or}
use Rattle.std.proofs.lemmas.List.Edits.{length-remove, get_or-remove_below, get_or-remove_above}

-- of the first c elements, all but number p
pub removed_all : {X : Type 0} (d : X) (p c : ℕ) (old new : List X) → p < c → c ≤ length old → length new ≡ length old
    → ((k : ℕ) → p ≤ k → k < p + (c - (p + 1)) → get_or new k d ≡ get_or old (p + 1 + (k - p)) d)
    → ((k : ℕ) → k < p → get_or new k d ≡ get_or old k d)
    → take (c - 1) new ≡ remove (take c old) p
removed_all d p c old new h l e moved before =
    let front = length-take-le c old l in
    let short = length-take-le (c - 1) new (omega arith) in
    let left = length-remove (take c old) p (omega arith) in
    ext_get_or d (take (c - 1) new) (remove (take c old) p) (omega arith)
    (λ k q. get_or-take (c - 1) new k d (omega arith) ∙ ⊎_elim
    (λ (r : k < p). before k r ∙ sym (get_or-remove_below (take c old) p d k r (omega arith) ∙ get_or-take c old k d (omega arith)))
    (λ (r : p ≤ k).
    let next : p + 1 + (k - p) ≡ k + 1 = omega arith in
    moved k r (omega arith) ∙ ap (λ (j : ℕ). get_or old j d) next ∙ sym (get_or-remove_above (take c old) p d k r (omega arith) ∙ get_or-take c old (k + 1) d (omega arith)))
    (cases_lt k p))
