-- The lines that a tube's replies give are those of the report.
use Rattle.std.proofs.Common.{◌≡◌, ℕ, zero, suc, ◌+◌, ◌*◌, ◌^◌, ◌<◌, ◌≤◌, List, [], ◌∷◌, ◌++◌, map, length, get_or, drop, ℤ, nat_abs, Some, Option, subst, sym, refl, ap, ◌∙◌, ap₂, arith}
use Rattle.std.proofs.lemmas.List.FromFn.{length-map-range_with_len}
use Rattle.std.proofs.lemmas.List.{append_assoc, drop_at, get_or-drop, length-append, length-map, get_or-map, length-take}
use Rattle.std.specs.List.{range_with_len, flat_map}
use Rattle.domains.specs.Axes.{axis}
use Rattle.domains.specs.Meaning.{Meaning, Answer, Lawful}
use Rattle.plan.specs.declared.keep.Keep.{Keep}
use Rattle.plan.specs.declared.plan.Plan.{Plan}
use Rattle.plan.specs.Keeps.{kept_list}
use Rattle.tube.specs.declared.call.Call.TheVariants.{Finding as Ask}
use Rattle.tube.specs.declared.call.Reply.{Reply}
use Rattle.tube.specs.declared.call.Reply.TheVariants.{Watched, Bounded}
use Rattle.tube.specs.declared.finding.Finding.{Finding}
use Rattle.tube.specs.Calls.{watched, watch_reply, watch_replies, reply}
use Rattle.tube.specs.Promise.{form_at}
use Rattle.tube.specs.Tables.{empty_table}
use Rattle.report.specs.Lines.{in_front, ends, step_text, keep_text}
use Rattle.report.specs.Questions.{questions}
use Rattle.report.specs.Replies.{bound_in, finding_in, reply_at, bounds_at, Limited, told_step, told_keeps, told_lines, keep_outs, plan_replies}
use Rattle.report.specs.Report.{bound_at, numbers_at, finding_of, lines_over}
use Rattle.report.specs.Tasks.{Labelled, Task, labelled_in, plan_task}
use Rattle.report.proofs.Answered as told

-- ---- lists by their elements
map_counting_same : {X : Type 0} (f g : ℕ → X) (a n : ℕ) → ((i : ℕ) → a ≤ i → i < a + n → f i ≡ g i) → map f (range_with_len a n) ≡ map g (range_with_len a n)
map_counting_same f g a zero h = refl
map_counting_same {X} f g a (suc n) h =
    ap₂ (λ (x : X) (xs : List X). x ∷ xs) (h a (omega arith) (omega arith)) (map_counting_same f g (a + 1) n (λ i k l. h i (omega arith) (omega arith)))

ends_same : (b c : ℕ → Option ℤ) → ((a : ℕ) → a < 8 → b a ≡ c a) → ends b ≡ ends c
ends_same b c h =
    λ i. in_front (h 1 (omega arith) i) (h 0 (omega arith) i) (in_front (h 3 (omega arith) i) (h 2 (omega arith) i) (in_front (h 5 (omega arith) i) (h 4 (omega arith) i) (in_front (h 7 (omega arith) i) (h 6 (omega arith) i) (Some []))))

-- lines of keep-outs, by replies of which the finding is known
keeps_same : (text : List ℕ) (v : Labelled → Finding) (φ : ℕ → Reply) (ks : List Keep) (i : ℕ)
    → ((j : ℕ) (k : Keep) → j < length ks → k ≡ get_or ks j k → finding_in (φ (i + j)) ≡ v (labelled_in text k))
    → told_keeps text ks (map φ (range_with_len i (length ks))) ≡ map (λ k. keep_text k.label (v k)) (map (labelled_in text) ks)
keeps_same text v φ [] i h = refl
keeps_same text v φ (k ∷ ks) i h =
    let z : i + 0 ≡ i = omega arith in
    ap₂ (λ (x : List ℕ) (xs : List (List ℕ)). x ∷ xs)
    (ap (keep_text (labelled_in text k).label) (ap (λ (n : ℕ). finding_in (φ n)) (sym z) ∙ h 0 k (omega arith) refl))
    (keeps_same text v φ ks (i + 1) (λ j o l e. let s : (i + 1) + j ≡ i + suc j = omega arith in ap (λ (n : ℕ). finding_in (φ n)) s ∙ h (suc j) o (omega arith) e))

module _ {F : Type 0} {d : Meaning F} (laws : Lawful d) (f : F) (fits : d.fits f) (text : List ℕ) (p : Plan) where
  abbrev ks : List Keep
  ks = kept_list p.keeps

  abbrev n : ℕ
  n = p.steps.count

  abbrev t : Task
  t = plan_task text p

  few : length (keep_outs p) ≤ 16
  few = omega (arith, length-map ks (λ (k : Keep). k.keep_out), length-take p.keeps.list.len p.keeps.list.storage, p.keeps.list.room)

  abbrev before : List Reply
  before = watch_replies empty_table (keep_outs p)

  before-length : length before ≡ length (keep_outs p)
  before-length = told.scan-length watched watch_reply empty_table (keep_outs p)

  abbrev found : List Reply
  found = told.findings d p.model p.start f (keep_outs p) n p.steps.limited

  abbrev later : List Reply
  later = flat_map (told.later d p.model p.start f) (range_with_len 0 n)

  abbrev first : List Reply
  first = told.block d p.model p.start f 0

  replies_are : plan_replies d f p ≡ before ++ (first ++ (later ++ found))
  replies_are = ap (λ (rs : List Reply). before ++ rs) (told.questions_told d p.model p.start f (keep_outs p) n p.steps.limited)

  -- the answers to the questions
  abbrev pub answers : List Reply
  answers = drop (length (keep_outs p)) (plan_replies d f p)

  answers_are : answers ≡ first ++ (later ++ found)
  answers_are = ap (drop (length (keep_outs p))) replies_are ∙ drop_at before (first ++ (later ++ found)) (length (keep_outs p)) before-length

  pub answers_limited : Limited answers
  answers_limited = λ i. subst (λ (r : Reply). Answer (bound_in r) (λ b. nat_abs b ≤ 2 ^ 52)) (sym (get_or-drop (length (keep_outs p)) (plan_replies d f p) i Watched))
      (told.limited laws p.model p.start f fits (keep_outs p) (questions n (length (keep_outs p))) (length (keep_outs p) + i))

  pub answers-length : 9 * n + 8 + length ks ≡ length answers
  answers-length =
      sym (ap length answers_are
      ∙ omega (
        arith,
        length-append first (later ++ found),
        length-append later found,
        told.block_length d p.model p.start f 0,
        told.later_length d p.model p.start f 0 n,
        length-map-range_with_len (λ k. reply d (told.last d p.model p.start f (keep_outs p) n p.steps.limited) (Ask k)) 0 (length (keep_outs p)),
        length-map ks (λ (k : Keep). k.keep_out),
      ))

  bounds_are : (k : ℕ) → k ≤ n → (a : ℕ) → a < 8 → bounds_at answers (9 * k) a ≡ bound_at d f t k (axis a)
  bounds_are k h a l =
      let z : 0 + k ≡ k = omega arith in
      ap bound_in
      (ap (λ (rs : List Reply). reply_at rs (9 * k + a)) answers_are
      ∙ told.blocks_at d p.model p.start f k n 0 a found h l
      ∙ ap (λ (i : ℕ). Bounded (d.bounded (axis a) (form_at d p.model p.start f i))) z)

  found_are : drop (9 * n + 8) answers ≡ found
  found_are =
      let q : length (first ++ later) ≡ 9 * n + 8 = omega (arith, length-append first later, told.later_length d p.model p.start f 0 n) in
      ap (drop (9 * n + 8)) (answers_are ∙ sym (append_assoc first later found)) ∙ drop_at (first ++ later) found (9 * n + 8) q

  finding_same : (j : ℕ) (k : Keep) → j < length ks → k ≡ get_or ks j k → finding_in (reply d (told.last d p.model p.start f (keep_outs p) n p.steps.limited) (Ask (0 + j))) ≡ finding_of d f t (labelled_in text k)
  finding_same j k h e =
      let z : 0 + j ≡ j = omega arith in
      ap (λ (i : ℕ). finding_in (reply d (told.last d p.model p.start f (keep_outs p) n p.steps.limited) (Ask i))) z
      ∙ ap finding_in (told.finding_told laws p.model p.start f fits (keep_outs p) few n p.steps.limited j k.keep_out
      (omega (arith, length-map ks (λ (k : Keep). k.keep_out)))
      (ap (λ (o : Keep). o.keep_out) e ∙ sym (get_or-map (λ (o : Keep). o.keep_out) ks j k k.keep_out h)))

  pub lines_are : told_lines text ks answers n ≡ lines_over d f t
  lines_are =
      ap₂ (λ (xs ys : List (List ℕ)). xs ++ ys)
      (map_counting_same (told_step answers) (λ k. step_text k (numbers_at d f t k)) 0 (n + 1)
      (λ k h l. ap (step_text k) (ends_same (bounds_at answers (9 * k)) (λ a. bound_at d f t k (axis a)) (bounds_are k (omega arith)))))
      (ap (told_keeps text ks) (found_are ∙ ap (λ (c : ℕ). map (λ k. reply d (told.last d p.model p.start f (keep_outs p) n p.steps.limited) (Ask k)) (range_with_len 0 c)) (length-map ks (λ (k : Keep). k.keep_out)))
      ∙ keeps_same text (finding_of d f t) (λ k. reply d (told.last d p.model p.start f (keep_outs p) n p.steps.limited) (Ask k)) ks 0 finding_same)
