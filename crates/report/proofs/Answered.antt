-- What a tube replies to the questions of a report, and the lines that its replies give.
use Rattle.std.proofs.Common.{◌≡◌, ℕ, zero, suc, ◌+◌, ◌*◌, ◌^◌, ◌<◌, ◌≤◌, Bool, true, false, cond, ltb, List, [], ◌∷◌, ◌++◌, map, length, get_or, nat_abs, sym, refl, ap, ◌∙◌, subst, ap₂, ⊎_elim, add-one, arith}
use Rattle.std.proofs.lemmas.List.FromFn.{get_or-map-range_with_len}
use Rattle.std.proofs.lemmas.List.{append_assoc, get_or_append_left, get_or-append-add, length-append}
use Rattle.std.proofs.lemmas.List.Sums.{fold-append}
use Rattle.std.proofs.lemmas.Bool.{cond-true, lt-ltb, cases_lt}
use Rattle.std.specs.List.{range_with_len, flat_map, fold, scan}
use Rattle.dynamics.specs.declared.keep_out.KeepOut.{KeepOut}
use Rattle.dynamics.specs.declared.model.Model.{Model}
use Rattle.dynamics.specs.declared.start.Start.{Start}
use Rattle.domains.specs.Axes.{axis}
use Rattle.domains.specs.Meaning.{Meaning, Answer, Lawful}
use Rattle.tube.specs.declared.call.Call.{Call}
use Rattle.tube.specs.declared.call.Call.TheVariants.{Step, Bound, Finding as Ask}
use Rattle.tube.specs.declared.call.Reply.{Reply}
use Rattle.tube.specs.declared.call.Reply.TheVariants.{Watched, Stepped, Bounded, Found, Refused}
use Rattle.tube.specs.declared.fault.Fault.TheVariants.{WatchLimit, StepLimit, NoKeepOut}
use Rattle.tube.specs.Calls.{watched, watched_all, watch_replies, begun, called, reply, after, replies}
use Rattle.tube.specs.Flights.{Flight, stepped}
use Rattle.tube.specs.Promise.{form_at}
use Rattle.tube.specs.Rows.{blank}
use Rattle.tube.specs.Tables.{Table, empty_table}
use Rattle.tube.proofs.Keeping.{watching, promise}
use Rattle.report.specs.Questions.{bound_calls, step_calls, finding_calls, questions}
use Rattle.report.specs.Replies.{bound_in, reply_at}
use Rattle.report.specs.Verdicts.{verdict}
use Rattle.report.proofs.Found.{finding_is}

-- ---- lists of inputs, one after the other
module _ {S A B : Type 0} (step : S → A → S) (out : S → A → B) where
  scan-append : (s : S) (xs ys : List A) → scan step out s (xs ++ ys) ≡ scan step out s xs ++ scan step out (fold step s xs) ys
  scan-append s [] ys = refl
  scan-append s (x ∷ xs) ys = ap (λ (t : List B). out s x ∷ t) (scan-append (step s x) xs ys)

  pub scan-length : (s : S) (xs : List A) → length (scan step out s xs) ≡ length xs
  scan-length s [] = refl
  scan-length s (x ∷ xs) = ap suc (scan-length (step s x) xs)

-- ---- what holds of every reply
abbrev Every : (Reply → Type 0) → List Reply → Type 0
Every P [] = Unit {0}
Every P (r ∷ rs) = P r × Every P rs

every_append : (P : Reply → Type 0) (xs ys : List Reply) → Every P xs → Every P ys → Every P (xs ++ ys)
every_append P [] ys p q = q
every_append P (x ∷ xs) ys p q = (p.0, every_append P xs ys p.1 q)

every_at : (P : Reply → Type 0) (xs : List Reply) → P Watched → Every P xs → (i : ℕ) → P (get_or xs i Watched)
every_at P [] w p i = w
every_at P (x ∷ xs) w p zero = p.0
every_at P (x ∷ xs) w p (suc i) = every_at P xs w p.1 i

abbrev Small : Reply → Type 0
Small r = Answer (bound_in r) (λ b. nat_abs b ≤ 2 ^ 52)

watches_small : (t : Table) (ks : List KeepOut) → Every Small (watch_replies t ks)
watches_small t [] = tt
watches_small t (k ∷ ks) = (go (ltb t.count 16), watches_small (watched t k) ks)
  where
    go : (b : Bool) → Small (cond b Watched (Refused WatchLimit))
    go true = tt
    go false = tt

module _ {F : Type 0} {d : Meaning F} (laws : Lawful d) (m : Model) where
  reply_small : (t : Flight F) → d.fits t.form → (c : Call) → Small (reply d t c)
  reply_small t h (Bound l) = laws.bound_limit l t.form h
  reply_small t h Step = go (ltb t.steps 256)
    where
      go : (b : Bool) → Small (cond b Stepped (Refused StepLimit))
      go true = tt
      go false = tt
  reply_small t h (Ask n) = go (ltb n t.table.count)
    where
      go : (b : Bool) → Small (cond b (Found (get_or t.table.rows n blank).finding) (Refused NoKeepOut))
      go true = tt
      go false = tt

  called_fits : (t : Flight F) → d.fits t.form → (c : Call) → d.fits (called d m t c).form
  called_fits t h (Bound l) = h
  called_fits t h (Ask n) = h
  called_fits t h Step = go (ltb t.steps 256)
    where
      go : (b : Bool) → d.fits (cond b (stepped d m t) t).form
      go true = laws.advance_fits m t.form h
      go false = h

  replies_small : (t : Flight F) → d.fits t.form → (cs : List Call) → Every Small (replies d m t cs)
  replies_small t h [] = tt
  replies_small t h (c ∷ cs) = (reply_small t h c, replies_small (called d m t c) (called_fits t h c) cs)

  -- every bound among the replies of a tube is within ±2^52
  pub limited : (s : Start) (f : F) → d.fits f → (ks : List KeepOut) (cs : List Call) (i : ℕ) → Small (reply_at (watch_replies empty_table ks ++ replies d m (begun d s f ks) cs) i)
  limited s f h ks cs =
      every_at Small (watch_replies empty_table ks ++ replies d m (begun d s f ks) cs) tt
      (every_append Small (watch_replies empty_table ks) (replies d m (begun d s f ks) cs) (watches_small empty_table ks) (replies_small (begun d s f ks) (laws.fill_fits s f h) cs))

-- ---- the replies to the questions of a report
module _ {F : Type 0} (d : Meaning F) (m : Model) (s : Start) (f : F) where
  -- the bounds of step k
  abbrev pub block : ℕ → List Reply
  block k = map (λ a. Bounded (d.bounded (axis a) (form_at d m s f k))) (range_with_len 0 8)

  abbrev pub later : ℕ → List Reply
  later k = Stepped ∷ block (k + 1)

  -- a tube at step k
  record At (t : Flight F) (k : ℕ) : Type 0 where
    form : t.form ≡ form_at d m s f k
    steps : t.steps ≡ k

  bounds_told : (t : Flight F) (k : ℕ) → At t k → replies d m t bound_calls ≡ block k
  bounds_told t k h = ap (λ (g : F). map (λ a. Bounded (d.bounded (axis a) g)) (range_with_len 0 8)) h.form

  bounds_ran : (t : Flight F) → after d m t bound_calls ≡ t
  bounds_ran t = refl

  step_at : (t : Flight F) (k : ℕ) → At t k → k < 256 → called d m t Step ≡ stepped d m t
  step_at t k h l = cond-true _ _ _ (lt-ltb t.steps 256 (omega (arith, h.steps)))

  step_told : (t : Flight F) (k : ℕ) → At t k → k < 256 → reply d t Step ≡ Stepped
  step_told t k h l = cond-true _ _ _ (lt-ltb t.steps 256 (omega (arith, h.steps)))

  stepped_at : (t : Flight F) (k : ℕ) → At t k → At (stepped d m t) (k + 1)
  unfolding form_at
  stepped_at t k h = record { form = ap (d.advanced m) h.form ∙ ap (form_at d m s f) (sym (add-one k)); steps = ap (λ n. n + 1) h.steps }

  steps_told : (n j k : ℕ) (t : Flight F) → At t k → k + n ≤ 256 → replies d m t (flat_map (λ i. Step ∷ bound_calls) (range_with_len j n)) ≡ flat_map later (range_with_len k n)
  steps_told zero j k t h l = refl
  steps_told (suc n) j k t h l =
      let t' = called d m t Step in
      let h' : At t' (k + 1) = subst (λ (u : Flight F). At u (k + 1)) (sym (step_at t k h (omega arith))) (stepped_at t k h) in
      let rest = flat_map (λ i. Step ∷ bound_calls) (range_with_len (j + 1) n) in
      ap₂ (λ (r : Reply) (rs : List Reply). r ∷ rs) (step_told t k h (omega arith))
      (scan-append (called d m) (reply d) t' bound_calls rest
      ∙ ap₂ (λ (xs ys : List Reply). xs ++ ys) (bounds_told t' (k + 1) h') (ap (λ (u : Flight F). replies d m u rest) (bounds_ran t') ∙ steps_told n (j + 1) (k + 1) t' h' (omega arith)))

  steps_at : (n j k : ℕ) (t : Flight F) → At t k → k + n ≤ 256 → At (after d m t (flat_map (λ i. Step ∷ bound_calls) (range_with_len j n))) (k + n)
  steps_at zero j k t h l = let e : k ≡ k + 0 = omega arith in subst (λ (i : ℕ). At t i) e h
  steps_at (suc n) j k t h l =
      let t' = called d m t Step in
      let h' : At t' (k + 1) = subst (λ (u : Flight F). At u (k + 1)) (sym (step_at t k h (omega arith))) (stepped_at t k h) in
      let rest = flat_map (λ i. Step ∷ bound_calls) (range_with_len (j + 1) n) in
      let e : (k + 1) + n ≡ k + suc n = omega arith in
      subst (λ (i : ℕ). At (after d m t' (bound_calls ++ rest)) i) e
      (subst (λ (u : Flight F). At u ((k + 1) + n)) (sym (fold-append (called d m) t' bound_calls rest ∙ ap (λ (u : Flight F). after d m u rest) (bounds_ran t'))) (steps_at n (j + 1) (k + 1) t' h' (omega arith)))

  count_kept : (t : Flight F) (cs : List Call) → (after d m t cs).table.count ≡ t.table.count
  count_kept t [] = refl
  count_kept t (c ∷ cs) = count_kept (called d m t c) cs ∙ one c
    where
      go : (b : Bool) → (cond b (stepped d m t) t).table.count ≡ t.table.count
      go true = refl
      go false = refl

      one : (c : Call) → (called d m t c).table.count ≡ t.table.count
      one Step = go (ltb t.steps 256)
      one (Bound l) = refl
      one (Ask n) = refl

  findings_told : (t : Flight F) (i n : ℕ) → replies d m t (map Ask (range_with_len i n)) ≡ map (λ k. reply d t (Ask k)) (range_with_len i n)
  findings_told t i zero = refl
  findings_told t i (suc n) = ap (λ (rs : List Reply). reply d t (Ask i) ∷ rs) (findings_told t (i + 1) n)

  module _ (ks : List KeepOut) (n : ℕ) (brief : n ≤ 256) where
    -- the tube as it begins, and as it ends
    abbrev pub first : Flight F
    first = begun d s f ks

    abbrev pub last : Flight F
    last = after d m first (step_calls n)

    first_at : At first 0
    unfolding form_at
    first_at = record { form = refl; steps = refl }

    last_at : At last n
    last_at = let e : 0 + n ≡ n = omega arith in subst (λ (i : ℕ). At last i) e (steps_at n 0 0 first first_at (omega arith))

    abbrev pub findings : List Reply
    findings = map (λ k. reply d last (Ask k)) (range_with_len 0 (length ks))

    pub questions_told : replies d m first (questions n (length ks)) ≡ block 0 ++ (flat_map later (range_with_len 0 n) ++ findings)
    questions_told =
        scan-append (called d m) (reply d) first bound_calls (step_calls n ++ finding_calls (length ks))
        ∙ ap₂ (λ (xs ys : List Reply). xs ++ ys) (bounds_told first 0 first_at)
        (ap (λ (u : Flight F). replies d m u (step_calls n ++ finding_calls (length ks))) (bounds_ran first)
        ∙ scan-append (called d m) (reply d) first (step_calls n) (finding_calls (length ks))
        ∙ ap₂ (λ (xs ys : List Reply). xs ++ ys) (steps_told n 0 0 first first_at (omega arith)) (findings_told last 0 (length ks)))

  -- ---- the bounds by their places
  pub block_length : (k : ℕ) → length (block k) ≡ 8
  block_length k = refl

  pub later_length : (j n : ℕ) → length (flat_map later (range_with_len j n)) ≡ 9 * n
  later_length j zero = refl
  later_length j (suc n) = omega (arith, length-append (later j) (flat_map later (range_with_len (j + 1) n)), later_length (j + 1) n)

  pub blocks_at : (k n j a : ℕ) (tail : List Reply) → k ≤ n → a < 8 → get_or (block j ++ (flat_map later (range_with_len j n) ++ tail)) (9 * k + a) Watched ≡ Bounded (d.bounded (axis a) (form_at d m s f (j + k)))
  blocks_at zero n j a tail h l =
      let e : 9 * 0 + a ≡ a = omega arith in
      let q : j + 0 ≡ j = omega arith in
      let g = λ (i : ℕ). Bounded (d.bounded (axis a) (form_at d m s f i)) in
      ap (λ (i : ℕ). get_or (block j ++ (flat_map later (range_with_len j n) ++ tail)) i Watched) e
      ∙ get_or_append_left (block j) (flat_map later (range_with_len j n) ++ tail) Watched a l
      ∙ get_or-map-range_with_len (λ a. Bounded (d.bounded (axis a) (form_at d m s f j))) 0 8 a a Watched l (omega arith)
      ∙ ap g (sym q)
  blocks_at (suc k) zero j a tail h l = absurd (omega arith)
  blocks_at (suc k) (suc n) j a tail h l =
      let e : 9 * suc k + a ≡ 8 + suc (9 * k + a) = omega arith in
      let q : (j + 1) + k ≡ j + suc k = omega arith in
      let more = flat_map later (range_with_len (j + 1) n) in
      let g = λ (i : ℕ). Bounded (d.bounded (axis a) (form_at d m s f i)) in
      ap (λ (i : ℕ). get_or (block j ++ ((later j ++ more) ++ tail)) i Watched) e
      ∙ get_or-append-add (block j) ((later j ++ more) ++ tail) (suc (9 * k + a)) Watched
      ∙ ap (λ (rs : List Reply). get_or rs (9 * k + a) Watched) (append_assoc (block (j + 1)) more tail)
      ∙ blocks_at k n (j + 1) a tail (omega arith) l
      ∙ ap g q

-- ---- the findings
module _ {F : Type 0} {d : Meaning F} (laws : Lawful d) (m : Model) (s : Start) (f : F) (fits : d.fits f) (ks : List KeepOut) (few : length ks ≤ 16) (n : ℕ) (brief : n ≤ 256) where
  all_watched : (watched_all empty_table ks).count ≡ length ks
  all_watched =
      let w = watching ks in
      let t = watched_all empty_table ks in
      ⊎_elim (λ (h : t.count < 16). w.all_or_full h) (λ (h : 16 ≤ t.count). omega (arith, w.few, w.known)) (cases_lt t.count 16)

  pub finding_told : (i : ℕ) (k : KeepOut) → i < length ks → k ≡ get_or ks i k
      → reply d (last d m s f ks n brief) (Ask i) ≡ Found (verdict (λ j. d.bounded k.direction (form_at d m s f j)) k.threshold n)
  finding_told i k h e =
      let t = last d m s f ks n brief in
      let b = λ (j : ℕ). d.bounded k.direction (form_at d m s f j) in
      let c : t.table.count ≡ length ks = count_kept d m s f (first d m s f ks n brief) (step_calls n) ∙ all_watched in
      let l : i < t.table.count = omega arith in
      let p = (promise laws m s f fits ks (step_calls n)).judged i k l e in
      cond-true _ _ _ (lt-ltb i t.table.count l) ∙ ap Found (finding_is b k.threshold t.steps _ p ∙ ap (verdict b k.threshold) (last_at d m s f ks n brief).steps)
