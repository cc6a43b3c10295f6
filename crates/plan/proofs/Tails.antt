-- The lines after the starts, one by one.
use Rattle.std.proofs.Common.{◌≡◌, ℕ, suc, List, [], ◌∷◌, ◌++◌, Ok, Err, Result, refl, ap, ◌∙◌, subst, arith}
use Rattle.plan.specs.declared.faults.LineFault.{LineFault}
use Rattle.plan.specs.declared.faults.LineFault.TheVariants.{Crowded}
use Rattle.plan.specs.declared.record.Kind.{Kind}
use Rattle.plan.specs.declared.record.Kind.TheVariants as kinds
use Rattle.plan.specs.declared.record.Expected.TheVariants.{KeepOrSteps, OnlySteps}
use Rattle.plan.specs.Grammar.{word}
use Rattle.plan.specs.Readings.{then, line_by}
use Rattle.plan.specs.Records.{kind_of, record_of}
use Rattle.plan.specs.Keeps.{Kept}
use Rattle.plan.specs.Values.{keeping, stepping, late_of, late_from, steps_from}
use Rattle.plan.specs.Plans.{go_on, tail_at}
use Rattle.plan.proofs.Inside.{bind_ok, line_by_ok}
use Rattle.plan.proofs.Joins.{record_joined}

module _ (keeps : List Kept) (n : ℕ) (t : List ℕ) where
  -- with room for a keep-out
  pub more_err : (m room : ℕ) (e : ℕ × LineFault) → m ≡ suc room → line_by (late_of KeepOrSteps) n t ≡ Err e → tail_at m keeps n t ≡ Err e
  unfolding tail_at
  more_err m room e q h = ap (λ m. tail_at m keeps n t) q ∙ ap (λ r. then r (go_on (tail_at room) keeps)) h

  pub more_steps : (m room : ℕ) (s : ℕ) (k : ℕ) (u : List ℕ) → m ≡ suc room → line_by (late_of KeepOrSteps) n t ≡ Ok (stepping s, k, u) → tail_at m keeps n t ≡ Ok ((keeps, s), k, u)
  unfolding tail_at
  more_steps m room s k u q h = ap (λ m. tail_at m keeps n t) q ∙ ap (λ r. then r (go_on (tail_at room) keeps)) h

  pub more_keep : (m room : ℕ) (x : Kept) (k : ℕ) (u : List ℕ) → m ≡ suc room → line_by (late_of KeepOrSteps) n t ≡ Ok (keeping x, k, u) → tail_at m keeps n t ≡ tail_at room (keeps ++ x ∷ []) k u
  unfolding tail_at
  more_keep m room x k u q h = ap (λ m. tail_at m keeps n t) q ∙ ap (λ r. then r (go_on (tail_at room) keeps)) h

  -- with none
  pub last_err : (m : ℕ) (e : ℕ × LineFault) → m ≡ 0 → line_by (late_of OnlySteps) n t ≡ Err e → tail_at m keeps n t ≡ Err e
  unfolding tail_at
  last_err m e q h = ap (λ m. tail_at m keeps n t) q ∙ ap (λ r. then r (go_on (λ ks n t. Err (n, Crowded)) keeps)) h

  pub last_steps : (m : ℕ) (s : ℕ) (k : ℕ) (u : List ℕ) → m ≡ 0 → line_by (late_of OnlySteps) n t ≡ Ok (stepping s, k, u) → tail_at m keeps n t ≡ Ok ((keeps, s), k, u)
  unfolding tail_at
  last_steps m s k u q h = ap (λ m. tail_at m keeps n t) q ∙ ap (λ r. then r (go_on (λ ks n t. Err (n, Crowded)) keeps)) h

-- where only the steps are expected no keep-out is read
steps_only : (k : Kind) (x : Kept) (fs : List (List ℕ)) → late_from (k, fs) ≡ Ok (keeping x) → k ≡ kinds.Keep
steps_only kinds.Row x fs e = let z : ◌≡◌ {A = ℕ} 0 1 = cc in absurd (omega arith)
steps_only kinds.Gust x fs e = let z : ◌≡◌ {A = ℕ} 0 1 = cc in absurd (omega arith)
steps_only kinds.Start x fs e = let z : ◌≡◌ {A = ℕ} 0 1 = cc in absurd (omega arith)
steps_only kinds.Keep x fs e = refl
steps_only kinds.Steps x fs e =
    let k = bind_ok (steps_from fs) (λ n. Ok (stepping n)) (keeping x) e in
    let f = k.2 in
    let z : ◌≡◌ {A = ℕ} 0 1 = cc in absurd (omega arith)

pub never_keep : (n : ℕ) (t : List ℕ) (x : Kept) (k : ℕ) (u : List ℕ) → line_by (late_of OnlySteps) n t ≡ Ok (keeping x, k, u) → ⊥
never_keep n t x k u e =
    let l = line_by_ok (late_of OnlySteps) n t (keeping x, k, u) e in
    let r = bind_ok (record_of OnlySteps l.0) late_from (keeping x) l.2 in
    let j = record_joined OnlySteps l.0 r.0 r.1 in
    let s = steps_only r.0.0 x r.0.1 r.2 in
    let P : Kind → Type 0 = λ k. kind_of OnlySteps (word k) ≡ Ok k in
    let f : ◌≡◌ {A = Result Kind LineFault} (Err Crowded) (Ok kinds.Keep) = subst P s j.2 in
    let z : ◌≡◌ {A = ℕ} 0 1 = cc in absurd (omega arith)
