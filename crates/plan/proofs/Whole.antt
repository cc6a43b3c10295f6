-- Every text that spells a plan is read as that plan: all its lines.
use Rattle.std.proofs.Common.{◌≡◌, ℕ, zero, suc, ◌+◌, ◌^◌, ◌<◌, ◌≤◌, ltb, List, [], ◌∷◌, ◌++◌, length, get_or, ℤ, nat_abs, Ok, sym, refl, ap, ◌∙◌, arith}
use Rattle.std.proofs.lemmas.List.{append_assoc, append-nil}
use Rattle.std.proofs.lemmas.Bool.{cond-false, le-ltb}
use Rattle.arith.specs.Sums.{part, entry}
use Rattle.arith.proofs.Indices.{by4}
use Rattle.dynamics.specs.Limits.{DirectionLimits, MatrixLimits, GustLimits, ModelLimits, StartLimits}
use Rattle.dynamics.specs.Refusals.{by_parts}
use Rattle.plan.specs.declared.record.Expected.TheVariants as expect
use Rattle.plan.specs.Grammar.{line, word}
use Rattle.plan.specs.Keeps.{Kept}
use Rattle.plan.specs.Plans.{Loop, Begin, Sheet, rows_at, loop_at, begin_at, tail_at, ended, plan_of}
use Rattle.plan.specs.Readings.{line_by}
use Rattle.plan.specs.Spelling.{Fields, Lines, Entry, row_entry, gust_entry, start_entry, keep_entry, steps_entry, loop_entries, begin_entries, tail_entries, Square, AllSound, Spells}
use Rattle.plan.specs.Values.{row_from, gust_from, start_from, late_from, keeping, stepping, row_of, gust_of, start_of}
use Rattle.plan.proofs.Full.{bind_at, four_is, two_is, rows_is, row_full, gust_full, start_full, keep_full, steps_full, line_full}
use Rattle.plan.proofs.Tails.{more_steps, more_keep, last_steps}

row_line : (i n : ℕ) (t rest : List ℕ) (fs : List (List ℕ)) (v : List ℤ) → t ≡ line (word (row_entry i v).0 ∷ fs) ++ rest → Fields fs (row_entry i v).1 → length v ≡ 4 → DirectionLimits v
    → line_by (row_of i) n t ≡ Ok (v, n + 1, rest)
row_line i n t rest fs v q s l h = line_full expect.Row (λ r. row_from i r.1) (row_entry i v) fs rest t n v q s refl refl (row_full i fs v s l h)

-- ---- the model
abbrev column : List (List ℤ) → ℕ → List ℤ
column b j = entry b 0 j ∷ entry b 1 j ∷ entry b 2 j ∷ entry b 3 j ∷ []

gust_line : (j n : ℕ) (t rest : List ℕ) (fs : List (List ℕ)) (l : Loop) → j < 2 → t ≡ line (word (gust_entry j l).0 ∷ fs) ++ rest → Fields fs (gust_entry j l).1 → MatrixLimits 2 l.gains → GustLimits l.centres l.radii
    → line_by (gust_of (j + 1)) n t ≡ Ok (record { gains = column l.gains j; centre = part l.centres j; radius = part l.radii j }, n + 1, rest)
gust_line j n t rest fs l h q s m g =
    line_full expect.Gust (λ r. gust_from (j + 1) r.1) (gust_entry j l) fs rest t n _ q s refl refl
    (gust_full (j + 1) fs (column l.gains j) (part l.centres j) (part l.radii j) s refl
    (by4 (λ i. nat_abs (part (column l.gains j) i) ≤ 2 ^ 20) (m 0 j (omega arith) h) (m 1 j (omega arith) h) (m 2 j (omega arith) h) (m 3 j (omega arith) h))
    (g.0 j h) (g.1 j h))

gains_is : (b : List (List ℤ)) → Square 2 b → by_parts (column b 0) (column b 1) ≡ b
gains_is b s =
    (λ i. two_is (get_or b 0 []) s.1 i ∷ two_is (get_or b 1 []) s.2 i ∷ two_is (get_or b 2 []) s.3 i ∷ two_is (get_or b 3 []) s.4 i ∷ []) ∙ rows_is b s.0

pub loop_full : (l : Loop) (es : List Entry) (n : ℕ) (t : List ℕ) → Square 4 l.matrix → Square 2 l.gains → length l.centres ≡ 2 → length l.radii ≡ 2 → ModelLimits l.matrix l.gains l.centres l.radii
    → Lines t (loop_entries l ++ es) [] → (m : ℕ) × (u : List ℕ) × (loop_at n t ≡ Ok (l, m, u)) × Lines u es []
loop_full l es n t sa sb sc sr lim r1 =
    let r2 = r1.4 in
    let r3 = r2.4 in
    let r4 = r3.4 in
    let r5 = r4.4 in
    let r6 = r5.4 in
    let row = λ (i : ℕ) (h : i < 4) (j : ℕ) (k : j < 4). lim.0 i j h k in
    let e1 = row_line 1 n t r1.1 r1.0 (get_or l.matrix 0 []) r1.2 r1.3 sa.1 (row 0 (omega arith)) in
    let e2 = row_line 2 (n + 1) r1.1 r2.1 r2.0 (get_or l.matrix 1 []) r2.2 r2.3 sa.2 (row 1 (omega arith)) in
    let e3 = row_line 3 (n + 1 + 1) r2.1 r3.1 r3.0 (get_or l.matrix 2 []) r3.2 r3.3 sa.3 (row 2 (omega arith)) in
    let e4 = row_line 4 (n + 1 + 1 + 1) r3.1 r4.1 r4.0 (get_or l.matrix 3 []) r4.2 r4.3 sa.4 (row 3 (omega arith)) in
    let e5 = gust_line 0 (n + 1 + 1 + 1 + 1) r4.1 r5.1 r5.0 l (omega arith) r5.2 r5.3 lim.1 lim.2 in
    let e6 = gust_line 1 (n + 1 + 1 + 1 + 1 + 1) r5.1 r6.1 r6.0 l (omega arith) r6.2 r6.3 lim.1 lim.2 in
    let rows : rows_at n t ≡ Ok (get_or l.matrix 0 [] ∷ get_or l.matrix 1 [] ∷ get_or l.matrix 2 [] ∷ get_or l.matrix 3 [] ∷ [], n + 1 + 1 + 1 + 1, r4.1) =
    bind_at _ _ _ e1 ∙ bind_at _ _ _ e2 ∙ bind_at _ _ _ e3 ∙ bind_at _ _ _ e4 in
    let m = n + 1 + 1 + 1 + 1 + 1 + 1 in
    let pa = rows_is l.matrix sa.0 in
    let pb = gains_is l.gains sb in
    let pc = two_is l.centres sc in
    let pr = two_is l.radii sr in
    (m, r6.1, bind_at _ _ _ rows ∙ bind_at _ _ _ e5 ∙ bind_at _ _ _ e6 ∙ (λ i. Ok (record { matrix = pa i; gains = pb i; centres = pc i; radii = pr i }, m, r6.1)), r6.4)

-- ---- the start
start_line : (i n : ℕ) (t rest : List ℕ) (fs : List (List ℕ)) (b : Begin) → i < 4 → t ≡ line (word (start_entry i b).0 ∷ fs) ++ rest → Fields fs (start_entry i b).1 → StartLimits b.centres b.radii
    → line_by (start_of (i + 1)) n t ≡ Ok ((part b.centres i, part b.radii i), n + 1, rest)
start_line i n t rest fs b h q s lim =
    line_full expect.Start (λ r. start_from (i + 1) r.1) (start_entry i b) fs rest t n _ q s refl refl (start_full (i + 1) fs (part b.centres i) (part b.radii i) s (lim.0 i h) (lim.1 i h))

pub begin_full : (b : Begin) (es : List Entry) (n : ℕ) (t : List ℕ) → length b.centres ≡ 4 → length b.radii ≡ 4 → StartLimits b.centres b.radii
    → Lines t (begin_entries b ++ es) [] → (m : ℕ) × (u : List ℕ) × (begin_at n t ≡ Ok (b, m, u)) × Lines u es []
begin_full b es n t sc sr lim r1 =
    let r2 = r1.4 in
    let r3 = r2.4 in
    let r4 = r3.4 in
    let e1 = start_line 0 n t r1.1 r1.0 b (omega arith) r1.2 r1.3 lim in
    let e2 = start_line 1 (n + 1) r1.1 r2.1 r2.0 b (omega arith) r2.2 r2.3 lim in
    let e3 = start_line 2 (n + 1 + 1) r2.1 r3.1 r3.0 b (omega arith) r3.2 r3.3 lim in
    let e4 = start_line 3 (n + 1 + 1 + 1) r3.1 r4.1 r4.0 b (omega arith) r4.2 r4.3 lim in
    let m = n + 1 + 1 + 1 + 1 in
    let pc = four_is b.centres sc in
    let pr = four_is b.radii sr in
    (m, r4.1, bind_at _ _ _ e1 ∙ bind_at _ _ _ e2 ∙ bind_at _ _ _ e3 ∙ bind_at _ _ _ e4 ∙ (λ i. Ok (record { centres = pc i; radii = pr i }, m, r4.1)), r4.4)

-- ---- the keep-outs and the steps
pub tail_full : (ks acc : List Kept) (s room n : ℕ) (t : List ℕ) → length ks ≤ room → AllSound ks → s ≤ 256 → Lines t (tail_entries ks s) [] → (m : ℕ) × (tail_at room acc n t ≡ Ok ((acc ++ ks, s), m, []))
tail_full [] acc s zero n t h a b r =
    let said = bind_at _ (λ n. Ok (stepping n)) s (steps_full r.0 s r.3 b) in
    let e = line_full expect.OnlySteps late_from (steps_entry s) r.0 r.1 t n (stepping s) r.2 r.3 refl refl said in
    let q = sym (append-nil acc) in
    (n + 1, last_steps acc n t 0 s (n + 1) r.1 refl e ∙ (λ i. Ok ((q i, s), n + 1, r.4 i)))
tail_full [] acc s (suc room) n t h a b r =
    let said = bind_at _ (λ n. Ok (stepping n)) s (steps_full r.0 s r.3 b) in
    let e = line_full expect.KeepOrSteps late_from (steps_entry s) r.0 r.1 t n (stepping s) r.2 r.3 refl refl said in
    let q = sym (append-nil acc) in
    (n + 1, more_steps acc n t (suc room) room s (n + 1) r.1 refl e ∙ (λ i. Ok ((q i, s), n + 1, r.4 i)))
tail_full (k ∷ ks) acc s zero n t h a b r = absurd (omega arith)
tail_full (k ∷ ks) acc s (suc room) n t h a b r =
    let said = bind_at _ (λ k. Ok (keeping k)) k (keep_full r.0 k r.3 a.0) in
    let e = line_full expect.KeepOrSteps late_from (keep_entry k) r.0 r.1 t n (keeping k) r.2 r.3 refl refl said in
    let more = tail_full ks (acc ++ k ∷ []) s room (n + 1) r.1 (omega arith) a.1 b r.4 in
    (more.0, more_keep acc n t (suc room) room k (n + 1) r.1 refl e ∙ more.1 ∙ ap (λ (l : List Kept). Ok ((l, s), more.0, [])) (append_assoc acc (k ∷ []) ks))

-- ---- the plan
pub plan_full : (t : List ℕ) (s : Sheet) → Spells t s → plan_of t ≡ Ok s
plan_full t s p =
    let d = p.sound in
    let l = loop_full s.loop (begin_entries s.begin ++ tail_entries s.keeps s.steps) 0 t d.matrix d.gains d.gusts.0 d.gusts.1 d.model p.lines in
    let b = begin_full s.begin (tail_entries s.keeps s.steps) l.0 l.1 d.start.0 d.start.1 d.start.2 l.3 in
    let e = tail_full s.keeps [] s.steps 16 b.0 b.1 d.few d.keeps d.brief b.3 in
    cond-false (ltb 8192 (length t)) _ _ (le-ltb _ _ p.short) ∙ ap ended (bind_at _ _ _ l.2 ∙ bind_at _ _ _ b.2 ∙ bind_at _ _ _ e.1)
