-- The lines of a run, one step on.
use Rattle.std.proofs.Common.{◌≡◌, ℕ, suc, ◌+◌, ◌-◌, ◌<◌, ◌≤◌, List, [], ◌++◌, sym, ap, ◌∙◌, arith}
use Rattle.std.proofs.lemmas.List.{append_assoc}
use Rattle.dynamics.specs.declared.model.Model.{Model}
use Rattle.domains.specs.Meaning.{Meaning}
use Rattle.pointing.specs.Report.{form_text, later_text}

module _ {Form : Type 0} (sense : Meaning Form) (m : Model) where
  pub later_more : (k n : ℕ) (f : Form) → k < n
      → later_text sense m k (n - k) f ≡ form_text sense (k + 1) (sense.advanced m f) ++ later_text sense m (k + 1) (n - (k + 1)) (sense.advanced m f)
  unfolding later_text
  later_more k n f h = let e : n - k ≡ suc (n - (k + 1)) = omega arith in ap (λ r. later_text sense m k r f) e

  pub later-none : (k n : ℕ) (f : Form) → n ≤ k → later_text sense m k (n - k) f ≡ []
  unfolding later_text
  later-none k n f h = let e : n - k ≡ 0 = omega arith in ap (λ r. later_text sense m k r f) e

  pub later_all : (n : ℕ) (f : Form) → later_text sense m 0 (n - 0) f ≡ later_text sense m 0 n f
  later_all n f = let e : n - 0 ≡ n = omega arith in ap (λ r. later_text sense m 0 r f) e

  -- one more line was put
  pub put-more : (k n : ℕ) (f f' : Form) (old new all : List ℕ) → k < n → f' ≡ sense.advanced m f → new ≡ old ++ form_text sense (k + 1) f'
      → old ++ later_text sense m k (n - k) f ≡ all → new ++ later_text sense m (k + 1) (n - (k + 1)) f' ≡ all
  put-more k n f f' old new all h e p q =
      ap (λ (t : List ℕ). t ++ later_text sense m (k + 1) (n - (k + 1)) f') p
      ∙ append_assoc old (form_text sense (k + 1) f') (later_text sense m (k + 1) (n - (k + 1)) f')
      ∙ ap (λ (f : Form). old ++ (form_text sense (k + 1) f ++ later_text sense m (k + 1) (n - (k + 1)) f)) e
      ∙ ap (λ (t : List ℕ). old ++ t) (sym (later_more k n f h))
      ∙ q
