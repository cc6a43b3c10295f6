-- Rows that a loop judges one by one.
use Rattle.std.proofs.Common.{◌≡◌, ℕ, ◌+◌, true, false, List, get_or, set, ℤ, Option, sym, ap, ◌∙◌, subst, add-one}
use Rattle.std.proofs.lemmas.List.{set-get_or}
use Rattle.std.proofs.lemmas.Bool.{cond-true, cond-false}
use Rattle.dynamics.specs.declared.direction.Direction.{Direction}
use Rattle.tube.specs.declared.row.Row.{Row}
use Rattle.tube.specs.Rows.{opened, blank}
use Rattle.tube.specs.Judging.{must_open, judged}

module _ (b : Direction → Option ℤ) (s i : ℕ) (rows rs : List Row) (e : rs ≡ judged b s i rows) where
  pub judged_open : must_open b (get_or rs i blank) ≡ true → set rs i (opened s (get_or rs i blank)) ≡ judged b s (i + 1) rows
  unfolding judged
  judged_open m =
      let P : List Row → Type 0 = λ j. must_open b (get_or j i blank) ≡ true → set j i (opened s (get_or j i blank)) ≡ judged b s (i + 1) rows in
      subst P (sym e) (λ h. rw add-one (ap (set (judged b s i rows) i) (sym (cond-true _ _ _ h)))) m

  pub judged-kept : must_open b (get_or rs i blank) ≡ false → rs ≡ judged b s (i + 1) rows
  unfolding judged
  judged-kept m =
      let P : List Row → Type 0 = λ j. must_open b (get_or j i blank) ≡ false → j ≡ judged b s (i + 1) rows in
      subst P (sym e) (λ h. rw add-one (sym (set-get_or (judged b s i rows) i blank) ∙ ap (set (judged b s i rows) i) (sym (cond-false _ _ _ h)))) m
