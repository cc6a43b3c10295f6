-- The verdict is the one finding that judging gives.
use Rattle.std.proofs.Common.{◌≡◌, ℕ, zero, suc, ◌<◌, ◌≤◌, Bool, true, false, cond, ◌&&◌, ℤ, Option, refl, ap, subst, ⊎_elim, arith}
use Rattle.std.proofs.lemmas.Bool.{cases_lt}
use Rattle.tube.specs.declared.finding.Finding.{Finding}
use Rattle.tube.specs.declared.finding.Finding.TheVariants.{Clear, Open}
use Rattle.tube.specs.Judging.{reaches, is_clear}
use Rattle.tube.specs.Promise.{JudgedBy}
use Rattle.tube.proofs.Rows.{first_finding, next_finding}
use Rattle.report.specs.Verdicts.{first_open, verdict}

first_open_is : (f : Finding) (c : Bool) (k : ℕ) → cond (is_clear f && c) (Open k) f ≡ first_open f (cond c (Open k) Clear)
first_open_is Clear c k = refl
first_open_is (Open s) c k = refl

module _ (b : ℕ → Option ℤ) (t : ℤ) where
  pub verdict-judged : (k : ℕ) → JudgedBy b t k (verdict b t k)
  unfolding verdict
  verdict-judged zero = first_finding b t
  verdict-judged (suc k) =
      subst (JudgedBy b t (suc k)) (first_open_is (verdict b t k) (reaches t (b (suc k))) (suc k)) (next_finding b t k (verdict b t k) (verdict-judged k))

  not_both : (j : ℕ) → reaches t (b j) ≡ true → reaches t (b j) ≡ false → ⊥
  not_both j p q = let z : ◌≡◌ {A = ℕ} 0 1 = cc in omega arith

  one_finding : (k : ℕ) (f g : Finding) → JudgedBy b t k f → JudgedBy b t k g → f ≡ g
  one_finding k Clear Clear p q = refl
  one_finding k Clear (Open s) p q = absurd (not_both s q.1 (p s q.0))
  one_finding k (Open r) Clear p q = absurd (not_both r p.1 (q r p.0))
  one_finding k (Open r) (Open s) p q =
      ⊎_elim (λ (h : r < s). absurd (not_both r p.1 (q.2 r h)))
      (λ (h : s ≤ r). ⊎_elim (λ (l : s < r). absurd (not_both s q.1 (p.2 s l))) (λ (l : r ≤ s). let e : r ≡ s = omega arith in ap Open e) (cases_lt s r))
      (cases_lt r s)

  pub finding_is : (k : ℕ) (f : Finding) → JudgedBy b t k f → f ≡ verdict b t k
  finding_is k f p = one_finding k f (verdict b t k) p (verdict-judged k)
