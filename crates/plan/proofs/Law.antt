-- A text is read as a plan exactly where it spells that plan.
use Rattle.std.proofs.Common.{◌≡◌, ℕ, zero, suc, ◌+◌, ◌^◌, ◌≤◌, Bool, true, false, cond, ltb, List, [], ◌∷◌, ◌++◌, length, ℤ, pos, nat_abs, ◌≤ℤ◌, Ok, Err, Result, sym, refl, ap, ◌∙◌, subst, arith}
use Rattle.std.proofs.lemmas.List.{append_assoc, append-nil}
use Rattle.std.proofs.lemmas.Bool.{ltb-false}
use Rattle.arith.specs.Sums.{part}
use Rattle.arith.proofs.Indices.{by4}
use Rattle.dynamics.specs.Limits.{MatrixLimits, ModelLimits, StartLimits}
use Rattle.dynamics.specs.Refusals.{by_parts}
use Rattle.plan.specs.declared.faults.LineFault.TheVariants.{Crowded}
use Rattle.plan.specs.declared.faults.Refusal.{Refusal}
use Rattle.plan.specs.declared.faults.Refusal.TheVariants.{TooLong}
use Rattle.plan.specs.declared.plan.Plan.{Plan}
use Rattle.plan.specs.declared.record.Expected.TheVariants as expect
use Rattle.plan.specs.declared.record.Kind.TheVariants as kinds
use Rattle.plan.specs.Grammar.{line, word}
use Rattle.plan.specs.Keeps.{Kept}
use Rattle.plan.specs.Plans.{Loop, Begin, Sheet, rows_at, loop_at, begin_at, go_on, tail_at, sheet_at, at_end, ended, plan_of, sheet}
use Rattle.plan.specs.Readings.{Reading, line_by}
use Rattle.plan.specs.Shown.{shown}
use Rattle.plan.specs.Spelling.{Lines, Entry, loop_entries, begin_entries, tail_entries, Square, AllSound, Spells, Answers}
use Rattle.plan.specs.Values.{Late, keeping, stepping, row_of, gust_of, start_of, late_of}
use Rattle.plan.proofs.Inside.{bind_ok, rows_kept, model_kept}
use Rattle.plan.proofs.Sure.{row_read, gust_read, start_read, LateRead, late_read}
use Rattle.plan.proofs.Whole.{plan_full}

ok_same : {A E : Type 0} (x y : A) → ◌≡◌ {A = Result A E} (Ok x) (Ok y) → x ≡ y
ok_same x y e = cc

-- ---- the model
abbrev LoopRead : List ℕ → Loop → List ℕ → Type 0
LoopRead t l u =
    Square 4 l.matrix × Square 2 l.gains × (length l.centres ≡ 2) × (length l.radii ≡ 2) × ModelLimits l.matrix l.gains l.centres l.radii
    × ((es : List Entry) → Lines u es [] → Lines t (loop_entries l ++ es) [])

loop_read : (n : ℕ) (t : List ℕ) (p : Loop × ℕ × List ℕ) → loop_at n t ≡ Ok p → LoopRead t p.0 p.2
loop_read n t p e =
    let rows = bind_ok (rows_at n t) _ p e in
    let first = bind_ok (line_by (gust_of 1) rows.0.1 rows.0.2) _ p rows.2 in
    let second = bind_ok (line_by (gust_of 2) first.0.1 first.0.2) _ p first.2 in
    let a = bind_ok (line_by (row_of 1) n t) _ rows.0 rows.1 in
    let b = bind_ok (line_by (row_of 2) a.0.1 a.0.2) _ rows.0 a.2 in
    let c = bind_ok (line_by (row_of 3) b.0.1 b.0.2) _ rows.0 b.2 in
    let d = bind_ok (line_by (row_of 4) c.0.1 c.0.2) _ rows.0 c.2 in
    let matrix = a.0.0 ∷ b.0.0 ∷ c.0.0 ∷ d.0.0 ∷ [] in
    let all : (matrix, d.0.1, d.0.2) ≡ rows.0 = ok_same _ _ d.2 in
    let x = first.0.0 in
    let y = second.0.0 in
    let made : List (List ℤ) → Loop = λ m. record { matrix = m; gains = by_parts x.gains y.gains; centres = x.centre ∷ y.centre ∷ []; radii = x.radius ∷ y.radius ∷ [] } in
    let same : (made rows.0.0, second.0.1, second.0.2) ≡ p = ok_same _ _ second.2 in
    let ra = row_read 1 n t a.0 a.1 in
    let rb = row_read 2 a.0.1 a.0.2 b.0 b.1 in
    let rc = row_read 3 b.0.1 b.0.2 c.0 c.1 in
    let rd = row_read 4 c.0.1 c.0.2 d.0 d.1 in
    let rx = gust_read 1 rows.0.1 rows.0.2 first.0 first.1 in
    let ry = gust_read 2 first.0.1 first.0.2 second.0 second.1 in
    let limits = rows_kept n t rows.0 rows.1 in
    let P : Loop → Type 0 = λ l. LoopRead t l second.0.2 in
    let rest : d.0.2 ≡ rows.0.2 = ap (λ q. q.2) all in
    let Q : Loop × ℕ × List ℕ → Type 0 = λ p. LoopRead t p.0 p.2 in
    subst Q same
    (subst P (ap (λ q. made q.0) all) (
      (refl, ra.1, rb.1, rc.1, rd.1),
      (refl, refl, refl, refl, refl),
      refl,
      refl,
      model_kept matrix x y (subst (MatrixLimits 4) (sym (ap (λ q. q.0) all)) limits) rx.1 ry.1,
      λ es lines. (
        ra.0.0,
        a.0.2,
        ra.0.1,
        ra.0.2,
        (
          rb.0.0,
          b.0.2,
          rb.0.1,
          rb.0.2,
          (
            rc.0.0,
            c.0.2,
            rc.0.1,
            rc.0.2,
            (
              rd.0.0,
              rows.0.2,
              rd.0.1 ∙ ap (λ (u : List ℕ). line (word kinds.Row ∷ rd.0.0) ++ u) rest,
              rd.0.2,
              (
                rx.0.0,
                first.0.2,
                rx.0.1,
                rx.0.2,
                (ry.0.0, second.0.2, ry.0.1, ry.0.2, lines),
              ),
            ),
          ),
        ),
      ),
    ))

-- ---- the start
abbrev BeginRead : List ℕ → Begin → List ℕ → Type 0
BeginRead t b u =
    (length b.centres ≡ 4) × (length b.radii ≡ 4) × StartLimits b.centres b.radii × ((es : List Entry) → Lines u es [] → Lines t (begin_entries b ++ es) [])

begin_read : (n : ℕ) (t : List ℕ) (p : Begin × ℕ × List ℕ) → begin_at n t ≡ Ok p → BeginRead t p.0 p.2
begin_read n t p e =
    let a = bind_ok (line_by (start_of 1) n t) _ p e in
    let b = bind_ok (line_by (start_of 2) a.0.1 a.0.2) _ p a.2 in
    let c = bind_ok (line_by (start_of 3) b.0.1 b.0.2) _ p b.2 in
    let d = bind_ok (line_by (start_of 4) c.0.1 c.0.2) _ p c.2 in
    let centres = a.0.0.0 ∷ b.0.0.0 ∷ c.0.0.0 ∷ d.0.0.0 ∷ [] in
    let radii = a.0.0.1 ∷ b.0.0.1 ∷ c.0.0.1 ∷ d.0.0.1 ∷ [] in
    let same : (record { centres = centres; radii = radii }, d.0.1, d.0.2) ≡ p = ok_same _ _ d.2 in
    let ra = start_read 1 n t a.0 a.1 in
    let rb = start_read 2 a.0.1 a.0.2 b.0 b.1 in
    let rc = start_read 3 b.0.1 b.0.2 c.0 c.1 in
    let rd = start_read 4 c.0.1 c.0.2 d.0 d.1 in
    let Q : Begin × ℕ × List ℕ → Type 0 = λ p. BeginRead t p.0 p.2 in
    subst Q same (
      refl,
      refl,
      (
        by4 (λ i. pos 0 ≤ℤ part radii i) ra.1.0 rb.1.0 rc.1.0 rd.1.0,
        by4 (λ i. nat_abs (part centres i) + nat_abs (part radii i) ≤ 2 ^ 30) ra.1.1 rb.1.1 rc.1.1 rd.1.1,
      ),
      λ es lines.
          (ra.0.0, a.0.2, ra.0.1, ra.0.2, (rb.0.0, b.0.2, rb.0.1, rb.0.2, (rc.0.0, c.0.2, rc.0.1, rc.0.2, (rd.0.0, d.0.2, rd.0.1, rd.0.2, lines)))),
    )

-- ---- the keep-outs and the steps
abbrev TailRead : ℕ → List Kept → List ℕ → List Kept × ℕ → List ℕ → Type 0
TailRead room acc t e u =
    (new : List Kept) × (e.0 ≡ acc ++ new) × (length new ≤ room) × AllSound new × (e.1 ≤ 256) × (u ≡ [] → Lines t (tail_entries new e.1) [])

steps_read : (room : ℕ) (acc : List Kept) (s : ℕ) (t u : List ℕ) → LateRead t (stepping s) u → TailRead room acc t (acc, s) u
steps_read room acc s t u r = ([], sym (append-nil acc), omega arith, tt, r.1, λ e. (r.0.0, u, r.0.1, r.0.2, e))

keep_read : (room : ℕ) (acc : List Kept) (k : Kept) (t u w : List ℕ) (e : List Kept × ℕ) → LateRead t (keeping k) u → TailRead room (acc ++ k ∷ []) u e w → TailRead (suc room) acc t e w
keep_read room acc k t u w e r m =
    (k ∷ m.0, m.1 ∙ append_assoc acc (k ∷ []) m.0, omega (arith, m.2), (r.1, m.3), m.4, λ q. (r.0.0, u, r.0.1, r.0.2, m.5 q))

after : (room : ℕ) (acc : List Kept) (again : List Kept → ℕ → List ℕ → Reading (List Kept × ℕ)) (t : List ℕ) (late : Late) (n : ℕ) (u : List ℕ) (p : (List Kept × ℕ) × ℕ × List ℕ)
    → LateRead t late u → ((k : Kept) → late ≡ keeping k → again (acc ++ k ∷ []) n u ≡ Ok p → TailRead room acc t p.0 p.2) → go_on again acc late n u ≡ Ok p → TailRead room acc t p.0 p.2
after room acc again t (keeping k) n u p r more e = more k refl e
after room acc again t (stepping s) n u p r more e =
    let same : ◌≡◌ {A = (List Kept × ℕ) × ℕ × List ℕ} ((acc, s), n, u) p = cc in
    let Q : (List Kept × ℕ) × ℕ × List ℕ → Type 0 = λ p. TailRead room acc t p.0 p.2 in
    subst Q same (steps_read room acc s t u r)

tail_read : (room : ℕ) (acc : List Kept) (n : ℕ) (t : List ℕ) (p : (List Kept × ℕ) × ℕ × List ℕ) → tail_at room acc n t ≡ Ok p → TailRead room acc t p.0 p.2
unfolding tail_at
tail_read zero acc n t p e =
    let l = bind_ok (line_by (late_of expect.OnlySteps) n t) _ p e in
    after zero acc (λ ks n t. Err (n, Crowded)) t l.0.0 l.0.1 l.0.2 p (late_read expect.OnlySteps n t l.0 l.1)
    (λ k q h. let z : ◌≡◌ {A = ℕ} 0 1 = cc in absurd (omega arith)) l.2
tail_read (suc room) acc n t p e =
    let l = bind_ok (line_by (late_of expect.KeepOrSteps) n t) _ p e in
    let r = late_read expect.KeepOrSteps n t l.0 l.1 in
    let more = λ (k : Kept). tail_read room (acc ++ k ∷ []) l.0.1 l.0.2 p in
    after (suc room) acc (tail_at room) t l.0.0 l.0.1 l.0.2 p r
    (λ k q h. keep_read room acc k t l.0.2 p.2 p.0 (subst (λ (v : Late). LateRead t v l.0.2) q r) (more k h)) l.2

-- ---- the plan
sheet_read : (t : List ℕ) (s : Sheet) (n : ℕ) → length t ≤ 8192 → sheet_at 0 t ≡ Ok (s, n, []) → Spells t s
sheet_read t s n h e =
    let l = bind_ok (loop_at 0 t) _ (s, n, []) e in
    let b = bind_ok (begin_at l.0.1 l.0.2) _ (s, n, []) l.2 in
    let k = bind_ok (tail_at 16 [] b.0.1 b.0.2) _ (s, n, []) b.2 in
    let made : Sheet = record { loop = l.0.0; begin = b.0.0; keeps = k.0.0.0; steps = k.0.0.1 } in
    let same : ◌≡◌ {A = Sheet × ℕ × List ℕ} (made, k.0.1, k.0.2) (s, n, []) = ok_same _ _ k.2 in
    let lr = loop_read 0 t l.0 l.1 in
    let br = begin_read l.0.1 l.0.2 b.0 b.1 in
    let kr = tail_read 16 [] b.0.1 b.0.2 k.0 k.1 in
    let all : k.0.0.0 ≡ kr.0 = kr.1 in
    let done : k.0.2 ≡ [] = ap (λ (q : Sheet × ℕ × List ℕ). q.2) same in
    let P : Sheet → Type 0 = λ s. Spells t s in
    subst P (ap (λ (q : Sheet × ℕ × List ℕ). q.0) same)
    (record {
      short = h;
      sound = record {
        matrix = lr.0;
        gains = lr.1;
        gusts = (lr.2, lr.3);
        model = lr.4;
        start = (br.0, br.1, br.2);
        keeps = subst AllSound (sym all) kr.3;
        few = subst (λ (ks : List Kept). length ks ≤ 16) (sym all) kr.2;
        brief = kr.4;
      };
      lines = lr.5 (begin_entries b.0.0 ++ tail_entries k.0.0.0 k.0.0.1)
          (br.3 (tail_entries k.0.0.0 k.0.0.1) (subst (λ (ks : List Kept). Lines b.0.2 (tail_entries ks k.0.0.1) []) (sym all) (kr.5 done)));
    })

at_end_ok : (q : Sheet) (n : ℕ) (u : List ℕ) (s : Sheet) → at_end q n u ≡ Ok s → (q ≡ s) × (u ≡ [])
at_end_ok q n [] s e = let same : q ≡ s = cc in (same, refl)
at_end_ok q n (b ∷ bs) s e = let z : ◌≡◌ {A = ℕ} 0 1 = cc in absurd (omega arith)

ended_ok : (t : List ℕ) (r : Reading Sheet) (s : Sheet) → length t ≤ 8192 → sheet_at 0 t ≡ r → ended r ≡ Ok s → Spells t s
ended_ok t (Ok p) s h q e =
    let k = at_end_ok p.0 p.1 p.2 s e in
    sheet_read t s p.1 h (q ∙ (λ i. Ok (k.0 i, p.1, k.1 i)))
ended_ok t (Err y) s h q e = let z : ◌≡◌ {A = ℕ} 0 1 = cc in absurd (omega arith)

pub plan_sure : (t : List ℕ) (s : Sheet) → plan_of t ≡ Ok s → Spells t s
plan_sure t s e = go (ltb 8192 (length t)) refl e
  where
    go : (b : Bool) → ltb 8192 (length t) ≡ b → cond {A = Result Sheet Refusal} b (Err TooLong) (ended (sheet_at 0 t)) ≡ Ok s → Spells t s
    go true q e = let z : ◌≡◌ {A = ℕ} 0 1 = cc in absurd (omega arith)
    go false q e = ended_ok t (sheet_at 0 t) s (ltb-false 8192 (length t) q) refl e

-- ---- the law
pub answers : (t : List ℕ) (r : Result Plan Refusal) → shown (sheet t) r ≡ plan_of t → Answers t (shown (sheet t) r)
answers t (Ok p) e = λ s. (λ h. let f = plan_full t s h in let same : sheet t p ≡ s = cc in sym same, λ q. plan_sure t s (sym e ∙ ap Ok (sym q)))
answers t (Err y) e = λ s h. let f = plan_full t s h in let z : ◌≡◌ {A = ℕ} 0 1 = cc in omega arith
