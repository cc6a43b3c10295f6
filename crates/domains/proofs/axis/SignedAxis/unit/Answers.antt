use Rattle.std.proofs.Common.{◌≡◌, ℕ, ◌/◌, ◌%◌, ◌<◌, cond, eqb, List, [], ◌∷◌, get_or, set, ℤ, pos, negsuc, sym, refl, ◌∙◌, arith, w64, SFits, rules, eq-eqb, ne_eqb}
use Rattle.std.proofs.lemmas.Bool.{cond-true, cond-false}
use Rattle.arith.specs.Sums.{listed}
use Rattle.arith.proofs.Bits.{back_is}
use Rattle.arith.proofs.Indices.{by4}
use Rattle.arith.proofs.Sums.{set-listed}
use Rattle.domains.specs.Axes.{unit}
use Rattle.domains.proofs.axis.SignedAxis.unit.Goals as goal

zeros : List ℤ
zeros = pos 0 ∷ (pos 0 ∷ (pos 0 ∷ (pos 0 ∷ [])))

one_set : (a p : ℕ) (v : ℤ) → a < 8 → p ≡ a / 2 → v ≡ cond (eqb (a % 2) 0) (pos 1) (negsuc 0) → set zeros p v ≡ listed 4 (unit a)
unfolding zeros
one_set a p v h k e =
    set-listed 4 zeros p (unit a) refl (omega arith) (e ∙ sym (cond-true (eqb p (a / 2)) _ _ (eq-eqb p (a / 2) k)))
    (λ i l n. by4 (λ i. get_or zeros i (pos 0) ≡ pos 0) refl refl refl refl i l ∙ sym (cond-false (eqb i (a / 2)) _ _ (ne_eqb i (a / 2) (λ q. n (q ∙ sym k)))))

pub returns : goal.returns
unfolding zeros
returns c =
    let f : SFits w64 c.signed.result = search rules in
    one_set c.args.self.index _ _ c.args.self.eight c.part.ensures.value (back_is c.signed.result f ∙ c.signed.ensures)
