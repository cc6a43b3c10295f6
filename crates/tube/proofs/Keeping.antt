-- Every list of watches and calls keeps the promise.
use Rattle.std.proofs.Common.{◌≡◌, ℕ, suc, ◌+◌, ◌<◌, ◌≤◌, Bool, true, false, cond, ltb, ◌≢◌, List, [], ◌∷◌, ◌++◌, length, get_or, sym, refl, ap, ◌∙◌, subst, ⊎_elim, append_assoc, append-nil, add-one, arith, length-set, get_or-set_other, get_or-set_same, ltb-false, ltb-true}
use Rattle.std.proofs.lemmas.Bool.{cases_eq}
use Rattle.std.proofs.lemmas.List.{get_or_append_left, get_or_push, length_push}
use Rattle.dynamics.specs.declared.direction.Direction.{Direction}
use Rattle.dynamics.specs.declared.keep_out.KeepOut.{KeepOut}
use Rattle.dynamics.specs.declared.model.Model.{Model}
use Rattle.dynamics.specs.declared.start.Start.{Start}
use Rattle.domains.specs.Meaning.{Meaning, Lawful}
use Rattle.tube.specs.declared.call.Call.{Call}
use Rattle.tube.specs.declared.call.Call.TheVariants.{Step, Bound, Finding as Ask}
use Rattle.tube.specs.declared.row.Row.{Row}
use Rattle.tube.specs.Calls.{watched, watched_all, begun, called, after}
use Rattle.tube.specs.Flights.{Flight, judged_at, launched, stepped}
use Rattle.tube.specs.Judging.{judged_row}
use Rattle.tube.specs.Promise.{form_at, JudgedBy, Kept}
use Rattle.tube.specs.Rows.{blank, row_of}
use Rattle.tube.specs.Tables.{Table, empty_table, with_keep_out}
use Rattle.tube.proofs.Rows.{RowOf, judged-length, judged_at_row, judged_numbers, judged-next, judged-first}
use Rattle.tube.proofs.Soundness.{run_held, run_bound, not_entered}

-- ---- the table after a list of watches
-- it has the first sixteen keep-outs of the list, in order
pub record Watching (ks : List KeepOut) (t : Table) : Type 0 where
  pub long : length t.rows ≡ 16
  pub few : t.count ≤ 16
  pub all_or_full : t.count < 16 → t.count ≡ length ks
  pub known : t.count ≤ length ks
  pub each : (n : ℕ) (k : KeepOut) → n < t.count → k ≡ get_or ks n k → get_or t.rows n blank ≡ row_of k

nothing-watched : Watching [] empty_table
nothing-watched = record { long = refl; few = omega arith; all_or_full = λ h. refl; known = omega arith; each = λ n k h e. absurd (omega arith) }

watch_one-more : (ks : List KeepOut) (t : Table) (k : KeepOut) → Watching ks t → Watching (ks ++ (k ∷ [])) (watched t k)
watch_one-more ks t k w = go (ltb t.count 16) refl
  where
    n' : length (ks ++ (k ∷ [])) ≡ length ks + 1
    n' = length_push ks k

    go : (b : Bool) → ltb t.count 16 ≡ b → Watching (ks ++ (k ∷ [])) (cond b (with_keep_out t k) t)
    go false e =
        let f = ltb-false t.count 16 e in
        record {
          long = w.long;
          few = w.few;
          all_or_full = λ h. absurd (omega arith);
          known = omega (arith, w.known, n');
          each = λ n j h q. w.each n j h (q ∙ get_or_append_left ks (k ∷ []) j n (omega (arith, w.known)));
        }
    go true e =
        let f = ltb-true t.count 16 e in
        let g = w.all_or_full f in
        record {
          long = length-set t.rows t.count (row_of k) ∙ w.long;
          few = omega arith;
          all_or_full = λ h. omega (arith, n');
          known = omega (arith, n');
          each = λ n j h q. ⊎_elim
              (λ (p : n ≡ t.count). let lt : t.count < length t.rows = omega (arith, w.long) in
              rw (p, get_or-set_same t.rows t.count (row_of k) blank) (ap row_of (sym (q ∙ get_or_push ks k j n (omega arith)))))
              (λ (ne : n ≡ t.count → ⊥). let d : n ≢ t.count = ne in
              rw (get_or-set_other t.rows t.count n (row_of k) blank) (w.each n j (omega arith) (q ∙ get_or_append_left ks (k ∷ []) j n (omega arith))))
              (cases_eq n t.count);
        }

watch_each : (ps : List KeepOut) (t : Table) (ks : List KeepOut) → Watching ps t → Watching (ps ++ ks) (watched_all t ks)
watch_each ps t [] w = subst (λ (xs : List KeepOut). Watching xs t) (sym (append-nil ps)) w
watch_each ps t (k ∷ ks) w =
    subst (λ (xs : List KeepOut). Watching xs (watched_all (watched t k) ks)) (append_assoc ps (k ∷ []) ks)
    (watch_each (ps ++ (k ∷ [])) (watched t k) ks (watch_one-more ps t k w))

pub watching : (ks : List KeepOut) → Watching ks (watched_all empty_table ks)
watching ks = watch_each [] empty_table ks nothing-watched

-- ---- the flight after a list of calls
module _ {F : Type 0} {d : Meaning F} (laws : Lawful d) (m : Model) (s : Start) (f : F) (fits : d.fits f) (ks : List KeepOut) where
  record Keeping (t : Flight F) : Type 0 where
    formed : t.form ≡ form_at d m s f t.steps
    long : length t.table.rows ≡ 16
    few : t.table.count ≤ 16
    numbers : (n : ℕ) (k : KeepOut) → n < t.table.count → k ≡ get_or ks n k → RowOf k (get_or t.table.rows n blank)
    found : (n : ℕ) (k : KeepOut) → n < t.table.count → k ≡ get_or ks n k → JudgedBy (λ j. d.bounded k.direction (form_at d m s f j)) k.threshold t.steps (get_or t.table.rows n blank).finding

  kept : (t : Flight F) → Keeping t → Kept d m s f ks t
  kept t i = record {
    formed = i.formed;
    held = λ xs r e. rw i.formed (run_held laws m s f fits xs r t.steps (omega arith));
    bounds = λ xs r e l. rw i.formed (run_bound laws m s f fits xs r t.steps (omega arith) l);
    judged = i.found;
    clear = λ n k h e c xs r j l x. not_entered laws m s f fits k xs r j (subst (JudgedBy (λ j. d.bounded k.direction (form_at d m s f j)) k.threshold t.steps) c (i.found n k h e) j l) x;
    open_since = λ n k since h e c xs r j l x. not_entered laws m s f fits k xs r j ((subst (JudgedBy (λ j. d.bounded k.direction (form_at d m s f j)) k.threshold t.steps) c (i.found n k h e)).2 j l) x;
  }

  -- judging at a step keeps it, where each row was in order before
  judging : (k : ℕ) (t : Table) → length t.rows ≡ 16 → t.count ≤ 16
      → ((n : ℕ) (o : KeepOut) → n < t.count → o ≡ get_or ks n o → RowOf o (get_or t.rows n blank))
      → ((n : ℕ) (o : KeepOut) → n < t.count → o ≡ get_or ks n o
      → JudgedBy (λ j. d.bounded o.direction (form_at d m s f j)) o.threshold k (judged_row (λ l. d.bounded l (form_at d m s f k)) k (get_or t.rows n blank)).finding)
      → Keeping (judged_at d (form_at d m s f k) k t)
  judging k t long few numbers found =
      let b = λ (l : Direction). d.bounded l (form_at d m s f k) in
      record {
        formed = refl;
        long = judged-length b k t.rows t.count ∙ long;
        few = few;
        numbers = λ n o h e. rw (judged_at_row b k t.rows t.count n h (omega arith)) (judged_numbers b k o (get_or t.rows n blank) (numbers n o h e));
        found = λ n o h e. rw (judged_at_row b k t.rows t.count n h (omega arith)) (found n o h e);
      }

  launch_keeps : (t : Table) → Watching ks t → Keeping (launched d s f t)
  unfolding form_at
  launch_keeps t w =
      let row : (n : ℕ) (o : KeepOut) → n < t.count → o ≡ get_or ks n o → RowOf o (get_or t.rows n blank) =
      λ n o h e. rw (w.each n o h e) (record { entries = refl; threshold = refl }) in
      judging 0 t w.long w.few row
      (λ n o h e. judged-first (λ j l. d.bounded l (form_at d m s f j)) o (get_or t.rows n blank) (row n o h e) (ap (λ (r : Row). r.finding) (w.each n o h e)))

  step_keeps : (t : Flight F) → Keeping t → Keeping (stepped d m t)
  unfolding form_at
  step_keeps t i =
      let e : form_at d m s f (suc t.steps) ≡ d.advanced m t.form = ap (d.advanced m) (sym i.formed) in
      let k : suc t.steps ≡ t.steps + 1 = sym (add-one t.steps) in
      subst (λ (n : ℕ). Keeping (judged_at d (d.advanced m t.form) n t.table)) k
      (subst (λ (g : F). Keeping (judged_at d g (suc t.steps) t.table)) e
      (judging (suc t.steps) t.table i.long i.few i.numbers
      (λ n o h q. judged-next (λ j l. d.bounded l (form_at d m s f j)) o (get_or t.table.rows n blank) (i.numbers n o h q) t.steps (i.found n o h q))))

  call_keeps : (t : Flight F) (c : Call) → Keeping t → Keeping (called d m t c)
  call_keeps t Step i = go (ltb t.steps 256)
    where
      go : (b : Bool) → Keeping (cond b (stepped d m t) t)
      go true = step_keeps t i
      go false = i
  call_keeps t (Bound l) i = i
  call_keeps t (Ask n) i = i

  calls_keep : (t : Flight F) (cs : List Call) → Keeping t → Keeping (after d m t cs)
  calls_keep t [] i = i
  calls_keep t (c ∷ cs) i = calls_keep (called d m t c) cs (call_keeps t c i)

  -- after every list of watches and calls
  pub promise : (cs : List Call) → Kept d m s f ks (after d m (begun d s f ks) cs)
  promise cs = kept (after d m (begun d s f ks) cs) (calls_keep (begun d s f ks) cs (launch_keeps (watched_all empty_table ks) (watching ks)))
