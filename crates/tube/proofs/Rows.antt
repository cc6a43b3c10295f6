-- What judging makes of each row, and of a finding.
use Rattle.std.proofs.Common.{◌≡◌, ℕ, zero, suc, ◌<◌, ◌≤◌, Bool, true, false, cond, ◌&&◌, ◌≢◌, ◌⊎◌, List, length, get_or, set, ℤ, Option, sym, refl, ap, ◌∙◌, subst, ⊎_elim, arith, length-set, get_or-set_other, get_or-set_same}
use Rattle.std.proofs.lemmas.Bool.{cases_lt, cases_eq}
use Rattle.dynamics.specs.declared.direction.Direction.{Direction}
use Rattle.dynamics.specs.declared.keep_out.KeepOut.{KeepOut}
use Rattle.tube.specs.declared.finding.Finding.{Finding}
use Rattle.tube.specs.declared.finding.Finding.TheVariants.{Clear, Open}
use Rattle.tube.specs.declared.row.Row.{Row}
use Rattle.tube.specs.Judging.{reaches, is_clear, must_open, judged_row, judged, row_bound, bound_along, direction_of}
use Rattle.tube.specs.Rows.{blank, opened}
use Rattle.tube.specs.Promise.{JudgedBy}
use Rattle.tube.proofs.Directions.{direction_made}

-- ---- the rows
module _ (b : Direction → Option ℤ) (s : ℕ) (rows : List Row) where
  pub judged-length : (n : ℕ) → length (judged b s n rows) ≡ length rows
  unfolding judged
  judged-length zero = refl
  judged-length (suc n) = length-set (judged b s n rows) n (judged_row b s (get_or (judged b s n rows) n blank)) ∙ judged-length n

  judged_past : (n i : ℕ) → n ≤ i → get_or (judged b s n rows) i blank ≡ get_or rows i blank
  unfolding judged
  judged_past zero i h = refl
  judged_past (suc n) i h =
      let ne : i ≢ n = omega arith in
      rw (get_or-set_other (judged b s n rows) n i (judged_row b s (get_or (judged b s n rows) n blank)) blank) (judged_past n i (omega arith))

  pub judged_at_row : (n i : ℕ) → i < n → n ≤ length rows → get_or (judged b s n rows) i blank ≡ judged_row b s (get_or rows i blank)
  unfolding judged
  judged_at_row zero i h l = absurd (omega arith)
  judged_at_row (suc n) i h l = step (judged_at_row n i) (cases_eq i n)
    where
      here : i ≡ n → get_or (set (judged b s n rows) n (judged_row b s (get_or (judged b s n rows) n blank))) i blank ≡ judged_row b s (get_or rows i blank)
      here e =
          let lt : n < length (judged b s n rows) = omega (arith, judged-length n) in
          rw (e, get_or-set_same (judged b s n rows) n (judged_row b s (get_or (judged b s n rows) n blank)) blank) (ap (judged_row b s) (judged_past n n (omega arith)))

      step : (i < n → n ≤ length rows → get_or (judged b s n rows) i blank ≡ judged_row b s (get_or rows i blank)) → (i ≡ n) ⊎ (i ≡ n → ⊥)
          → get_or (set (judged b s n rows) n (judged_row b s (get_or (judged b s n rows) n blank))) i blank ≡ judged_row b s (get_or rows i blank)
      step more = ⊎_elim here (λ ne. let d : i ≢ n = ne in rw (get_or-set_other (judged b s n rows) n i (judged_row b s (get_or (judged b s n rows) n blank)) blank) (more (omega arith) (omega arith)))

-- ---- one row of a keep-out
-- a row's numbers are those of a keep-out
pub record RowOf (k : KeepOut) (r : Row) : Type 0 where
  pub entries : r.entries ≡ k.direction.entries
  pub threshold : r.threshold ≡ k.threshold

pub judged_numbers : (b : Direction → Option ℤ) (s : ℕ) (k : KeepOut) (r : Row) → RowOf k r → RowOf k (judged_row b s r)
judged_numbers b s k r h = go (must_open b r)
  where
    go : (c : Bool) → RowOf k (cond c (opened s r) r)
    go true = record { entries = h.entries; threshold = h.threshold }
    go false = h

pub row_bound_is : (b : Direction → Option ℤ) (k : KeepOut) (r : Row) → RowOf k r → row_bound b r ≡ b k.direction
row_bound_is b k r h = ap (λ (l : List ℤ). bound_along b (direction_of l)) h.entries ∙ ap (bound_along b) (direction_made k.direction)

-- ---- one finding
opened_finding : (c : Bool) (s : ℕ) (r : Row) → (cond c (opened s r) r).finding ≡ cond c (Open s) r.finding
opened_finding true s r = refl
opened_finding false s r = refl

-- judged before at the steps 0 to k, and now at the next one
pub next_finding : (b : ℕ → Option ℤ) (t : ℤ) (k : ℕ) (f : Finding) → JudgedBy b t k f → JudgedBy b t (suc k) (cond (is_clear f && reaches t (b (suc k))) (Open (suc k)) f)
next_finding b t k (Open s) h = (omega (arith, h.0), h.1, h.2)
next_finding b t k Clear h = go (reaches t (b (suc k))) refl
  where
    go : (c : Bool) → reaches t (b (suc k)) ≡ c → JudgedBy b t (suc k) (cond c (Open (suc k)) Clear)
    go true e = (omega arith, e, λ j l. h j (omega arith))
    go false e = λ j l. ⊎_elim (λ (q : j < suc k). h j (omega arith)) (λ (q : suc k ≤ j). let r : j ≡ suc k = omega arith in ap (λ (i : ℕ). reaches t (b i)) r ∙ e) (cases_lt j (suc k))

pub first_finding : (b : ℕ → Option ℤ) (t : ℤ) → JudgedBy b t 0 (cond (reaches t (b 0)) (Open 0) Clear)
first_finding b t = go (reaches t (b 0)) refl
  where
    go : (c : Bool) → reaches t (b 0) ≡ c → JudgedBy b t 0 (cond c (Open 0) Clear)
    go true e = (omega arith, e, λ j l. absurd (omega arith))
    go false e = λ j l. let r : j ≡ 0 = omega arith in ap (λ (i : ℕ). reaches t (b i)) r ∙ e

module _ (b : ℕ → Direction → Option ℤ) (k : KeepOut) (r : Row) (h : RowOf k r) where
  abbrev along : ℕ → Option ℤ
  along j = b j k.direction

  test_is : (j : ℕ) → must_open (b j) r ≡ is_clear r.finding && reaches k.threshold (along j)
  test_is j = ap (λ (o : Option ℤ). is_clear r.finding && reaches r.threshold o) (row_bound_is (b j) k r h) ∙ ap (λ (t : ℤ). is_clear r.finding && reaches t (along j)) h.threshold

  finding_is : (j s : ℕ) → (judged_row (b j) s r).finding ≡ cond (is_clear r.finding && reaches k.threshold (along j)) (Open s) r.finding
  finding_is j s = opened_finding (must_open (b j) r) s r ∙ ap (λ (c : Bool). cond c (Open s) r.finding) (test_is j)

  pub judged-next : (n : ℕ) → JudgedBy along k.threshold n r.finding → JudgedBy along k.threshold (suc n) (judged_row (b (suc n)) (suc n) r).finding
  judged-next n q = subst (JudgedBy along k.threshold (suc n)) (sym (finding_is (suc n) (suc n))) (next_finding along k.threshold n r.finding q)

  pub judged-first : r.finding ≡ Clear → JudgedBy along k.threshold 0 (judged_row (b 0) 0 r).finding
  judged-first e =
      subst (JudgedBy along k.threshold 0)
      (sym (finding_is 0 0 ∙ ap (λ (f : Finding). cond (is_clear f && reaches k.threshold (along 0)) (Open 0) f) e))
      (first_finding along k.threshold)
