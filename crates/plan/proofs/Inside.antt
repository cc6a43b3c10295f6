-- What was read lies within its limits.
use Rattle.std.proofs.Common.{◌≡◌, ℕ, ◌+◌, ◌^◌, ◌≤◌, Bool, true, false, cond, ◌||◌, List, [], ◌∷◌, get_or, ℤ, pos, neg_ℤ, nat_abs, ◌≤ℤ◌, Some, None, Ok, Err, Option, Result, refl, ap, ◌∙◌, subst, arith}
use lib.Signed.{lt_z}
use Rattle.std.proofs.lemmas.Int.{ints}
use Rattle.std.proofs.lemmas.Bool.{or_parts, ltb-false}
use Rattle.arith.specs.Sums.{part, entry}
use Rattle.arith.proofs.Indices.{by2, by4}
use Rattle.dynamics.specs.declared.channel.Channel.{Channel}
use Rattle.dynamics.specs.Limits.{DirectionLimits, MatrixLimits, ModelLimits}
use Rattle.dynamics.specs.Ranges.{too_large}
use Rattle.dynamics.specs.Refusals.{by_parts}
use Rattle.plan.specs.declared.faults.NumberFault.{NumberFault}
use Rattle.plan.specs.declared.faults.FieldFault.{FieldFault}
use Rattle.plan.specs.declared.faults.FieldFault.TheVariants.{Range}
use Rattle.plan.specs.Numbers.{number_of}
use Rattle.plan.specs.declared.faults.LineFault.{LineFault}
use Rattle.plan.specs.declared.faults.LineFault.TheVariants.{Sum}
use Rattle.plan.specs.declared.record.Expected.TheVariants as expect
use Rattle.plan.specs.Cuts.{line_of}
use Rattle.plan.specs.Records.{record_of}
use Rattle.plan.specs.Readings.{bind, then, found, placed, line_by}
use Rattle.plan.specs.Fields.{in_range, ranged, within_field, up_to_field, index_of, entries_of}
use Rattle.plan.specs.Values.{in_line, together, pair_of, row_from, gust_from, start_from, row_of, gust_of, start_of}
use Rattle.plan.specs.Plans.{rows_at}

-- a chain that ends well went well in each part
pub bind_ok : {A B E : Type 0} (r : Result A E) (k : A → Result B E) (v : B) → bind r k ≡ Ok v → (x : A) × (r ≡ Ok x) × (k x ≡ Ok v)
bind_ok (Ok x) k v e = (x, refl, e)
bind_ok (Err y) k v e = let z : ◌≡◌ {A = ℕ} 0 1 = cc in absurd (omega arith)

least_kept : (z least : ℤ) → lt_z z least ≡ false → least ≤ℤ z
least_kept z least e = grind (arith, ints)

most_kept : (z most : ℤ) → lt_z most z ≡ false → z ≤ℤ most
most_kept z most e = grind (arith, ints)

-- the number and its two tests
tested : (field : ℕ) (n z least most : ℤ) (b : Bool) → (lt_z n least || lt_z most n) ≡ b → cond {A = Result ℤ FieldFault} b (Err (Range field)) (Ok n) ≡ Ok z → (least ≤ℤ z) × (z ≤ℤ most) × (n ≡ z)
tested field n z least most true t h = let q : ◌≡◌ {A = ℕ} 0 1 = cc in absurd (omega arith)
tested field n z least most false t h =
    let e : n ≡ z = cc in
    let parts = or_parts (lt_z n least) (lt_z most n) t in
    (subst (λ (z : ℤ). least ≤ℤ z) e (least_kept n least parts.0), subst (λ (z : ℤ). z ≤ℤ most) e (most_kept n most parts.1), e)

in_range_kept : (field : ℕ) (least most : ℤ) (r : Result ℤ NumberFault) (z : ℤ) → in_range field least most r ≡ Ok z → (least ≤ℤ z) × (z ≤ℤ most) × (r ≡ Ok z)
in_range_kept field least most (Err e) z h = let q : ◌≡◌ {A = ℕ} 0 1 = cc in absurd (omega arith)
in_range_kept field least most (Ok n) z h = let t = tested field n z least most (lt_z n least || lt_z most n) refl h in (t.0, t.1, ap Ok t.2)

pub ranged-kept : (field : ℕ) (least most : ℤ) (text : List ℕ) (z : ℤ) → ranged field least most text ≡ Ok z → (least ≤ℤ z) × (z ≤ℤ most) × (number_of field text ≡ Ok z)
ranged-kept field least most text z e = in_range_kept field least most (number_of field text) z e

pub within-kept : (field limit : ℕ) (text : List ℕ) (z : ℤ) → within_field field limit text ≡ Ok z → nat_abs z ≤ limit
within-kept field limit text z e = let k = ranged-kept field (neg_ℤ (pos limit)) (pos limit) text z e in omega (arith, ints)

pub up_to_kept : (field limit : ℕ) (text : List ℕ) (z : ℤ) → up_to_field field limit text ≡ Ok z → (pos 0 ≤ℤ z) × (nat_abs z ≤ limit)
up_to_kept field limit text z e = let k = ranged-kept field (pos 0) (pos limit) text z e in (k.0, omega (arith, ints))

pub entries-kept : (a b c d : List ℕ) (v : List ℤ) → entries_of a b c d ≡ Ok v → DirectionLimits v
entries-kept a b c d v e =
    let p = bind_ok (within_field 3 (2 ^ 20) a) _ v e in
    let q = bind_ok (within_field 4 (2 ^ 20) b) _ v p.2 in
    let s = bind_ok (within_field 5 (2 ^ 20) c) _ v q.2 in
    let t = bind_ok (within_field 6 (2 ^ 20) d) _ v s.2 in
    let l : p.0 ∷ q.0 ∷ s.0 ∷ t.0 ∷ [] ≡ v = cc in
    subst DirectionLimits l
    (by4 (λ i. nat_abs (part (p.0 ∷ q.0 ∷ s.0 ∷ t.0 ∷ []) i) ≤ 2 ^ 20)
    (within-kept 3 (2 ^ 20) a p.0 p.1) (within-kept 4 (2 ^ 20) b q.0 q.1) (within-kept 5 (2 ^ 20) c s.0 s.1) (within-kept 6 (2 ^ 20) d t.0 t.1))

-- ---- lines
pub in_line_ok : {A : Type 0} (r : Result A FieldFault) (v : A) → in_line r ≡ Ok v → r ≡ Ok v
in_line_ok (Ok x) v e = let q : x ≡ v = cc in ap Ok q
in_line_ok (Err y) v e = let z : ◌≡◌ {A = ℕ} 0 1 = cc in absurd (omega arith)

summed : (field limit : ℕ) (p w : ℤ) (v : ℤ × ℤ) (b : Bool) → too_large limit p w ≡ b → cond {A = Result (ℤ × ℤ) LineFault} b (Err (Sum (field + 1))) (Ok (p, w)) ≡ Ok v
    → (nat_abs p + nat_abs w ≤ limit) × ((p, w) ≡ v)
summed field limit p w v true t h = let q : ◌≡◌ {A = ℕ} 0 1 = cc in absurd (omega arith)
summed field limit p w v false t h = let e : (p, w) ≡ v = cc in (omega (arith, ltb-false _ _ t), e)

pub together_ok : (field limit : ℕ) (p w : Result ℤ FieldFault) (v : ℤ × ℤ) → together field limit p w ≡ Ok v → (p ≡ Ok v.0) × (w ≡ Ok v.1) × (nat_abs v.0 + nat_abs v.1 ≤ limit)
together_ok field limit (Err e) w v h = let q : ◌≡◌ {A = ℕ} 0 1 = cc in absurd (omega arith)
together_ok field limit (Ok p) (Err e) v h = let q : ◌≡◌ {A = ℕ} 0 1 = cc in absurd (omega arith)
together_ok field limit (Ok p) (Ok w) v h =
    let t = summed field limit p w v (too_large limit p w) refl h in
    let P : ℤ × ℤ → Type 0 = λ v. nat_abs v.0 + nat_abs v.1 ≤ limit in
    (ap (λ (v : ℤ × ℤ). Ok v.0) t.1, ap (λ (v : ℤ × ℤ). Ok v.1) t.1, subst P t.1 t.0)

pub pair_kept : (field limit : ℕ) (centre radius : List ℕ) (v : ℤ × ℤ) → pair_of field limit centre radius ≡ Ok v → (pos 0 ≤ℤ v.1) × (nat_abs v.0 + nat_abs v.1 ≤ limit)
pair_kept field limit centre radius v e =
    let t = together_ok field limit _ _ v e in ((up_to_kept (field + 1) limit radius v.1 t.1).0, t.2)

pub row_kept : (i : ℕ) (line : List ℕ) (v : List ℤ) → row_of i line ≡ Ok v → DirectionLimits v
row_kept i line v e =
    let r = bind_ok (record_of expect.Row line) (λ r. row_from i r.1) v e in
    let fs = r.0.1 in
    let n = bind_ok (in_line (index_of i (get_or fs 0 []))) _ v r.2 in
    entries-kept (get_or fs 1 []) (get_or fs 2 []) (get_or fs 3 []) (get_or fs 4 []) v (in_line_ok _ v n.2)

-- what a channel that was read keeps
abbrev pub ChannelKept : Channel → Type 0
ChannelKept c = DirectionLimits c.gains × (pos 0 ≤ℤ c.radius) × (nat_abs c.centre + nat_abs c.radius ≤ 2 ^ 24)

pub gust_kept : (j : ℕ) (line : List ℕ) (c : Channel) → gust_of j line ≡ Ok c → ChannelKept c
gust_kept j line c e =
    let r = bind_ok (record_of expect.Gust line) (λ r. gust_from j r.1) c e in
    let fs = r.0.1 in
    let n = bind_ok (in_line (index_of j (get_or fs 0 []))) _ c r.2 in
    let g = bind_ok (in_line (entries_of (get_or fs 1 []) (get_or fs 2 []) (get_or fs 3 []) (get_or fs 4 []))) _ c n.2 in
    let p = bind_ok (pair_of 7 (2 ^ 24) (get_or fs 5 []) (get_or fs 6 [])) _ c g.2 in
    let same : record { gains = g.0; centre = p.0.0; radius = p.0.1 } ≡ c = cc in
    let k = pair_kept 7 (2 ^ 24) (get_or fs 5 []) (get_or fs 6 []) p.0 p.1 in
    subst ChannelKept same (entries-kept (get_or fs 1 []) (get_or fs 2 []) (get_or fs 3 []) (get_or fs 4 []) g.0 (in_line_ok _ g.0 g.1), k.0, k.1)

pub start_kept : (i : ℕ) (line : List ℕ) (v : ℤ × ℤ) → start_of i line ≡ Ok v → (pos 0 ≤ℤ v.1) × (nat_abs v.0 + nat_abs v.1 ≤ 2 ^ 30)
start_kept i line v e =
    let r = bind_ok (record_of expect.Start line) (λ r. start_from i r.1) v e in
    let fs = r.0.1 in
    let n = bind_ok (in_line (index_of i (get_or fs 0 []))) _ v r.2 in
    pair_kept 3 (2 ^ 30) (get_or fs 1 []) (get_or fs 2 []) v n.2

-- ---- readings
placed_ok : {A : Type 0} (n : ℕ) (t : List ℕ) (r : Result A LineFault) (p : A × ℕ × List ℕ) → placed n t r ≡ Ok p → (r ≡ Ok p.0) × (n ≡ p.1) × (t ≡ p.2)
placed_ok n t (Ok v) p e = let q : (v, n, t) ≡ p = cc in (ap (λ p. Ok p.0) q, ap (λ p. p.1) q, ap (λ p. p.2) q)
placed_ok n t (Err y) p e = let z : ◌≡◌ {A = ℕ} 0 1 = cc in absurd (omega arith)

pub line_by_ok : {A : Type 0} (f : List ℕ → Result A LineFault) (n : ℕ) (t : List ℕ) (p : A × ℕ × List ℕ) → line_by f n t ≡ Ok p
    → (line : List ℕ) × (line_of t ≡ Some (line, p.2)) × (f line ≡ Ok p.0) × (n + 1 ≡ p.1)
line_by_ok {A} f n t p e = go (line_of t) refl e
  where
    go : (o : Option (List ℕ × List ℕ)) → line_of t ≡ o → then (found (n + 1) o) (λ line n t. placed n t (f line)) ≡ Ok p
        → (line : List ℕ) × (line_of t ≡ Some (line, p.2)) × (f line ≡ Ok p.0) × (n + 1 ≡ p.1)
    go None h e = let z : ◌≡◌ {A = ℕ} 0 1 = cc in absurd (omega arith)
    go (Some q) h e =
        let k = placed_ok (n + 1) q.1 (f q.0) p e in
        (q.0, h ∙ ap (λ r. Some (q.0, r)) k.2, k.0, k.1)

pub rows_kept : (n : ℕ) (t : List ℕ) (p : List (List ℤ) × ℕ × List ℕ) → rows_at n t ≡ Ok p → MatrixLimits 4 p.0
rows_kept n t p e =
    let a = bind_ok (line_by (row_of 1) n t) _ p e in
    let b = bind_ok (line_by (row_of 2) a.0.1 a.0.2) _ p a.2 in
    let c = bind_ok (line_by (row_of 3) b.0.1 b.0.2) _ p b.2 in
    let d = bind_ok (line_by (row_of 4) c.0.1 c.0.2) _ p c.2 in
    let rows = a.0.0 ∷ b.0.0 ∷ c.0.0 ∷ d.0.0 ∷ [] in
    let same : (rows, d.0.1, d.0.2) ≡ p = cc in
    let ka = line_by_ok (row_of 1) n t a.0 a.1 in
    let kb = line_by_ok (row_of 2) a.0.1 a.0.2 b.0 b.1 in
    let kc = line_by_ok (row_of 3) b.0.1 b.0.2 c.0 c.1 in
    let kd = line_by_ok (row_of 4) c.0.1 c.0.2 d.0 d.1 in
    subst (MatrixLimits 4) (ap (λ p. p.0) same)
    (λ i j h k. by4 (λ i. DirectionLimits (get_or rows i [])) (row_kept 1 ka.0 a.0.0 ka.2) (row_kept 2 kb.0 b.0.0 kb.2) (row_kept 3 kc.0 c.0.0 kc.2) (row_kept 4 kd.0 d.0.0 kd.2) i h j k)

-- a model of rows and channels that were read
pub model_kept : (a : List (List ℤ)) (c d : Channel) → MatrixLimits 4 a → ChannelKept c → ChannelKept d
    → ModelLimits a (by_parts c.gains d.gains) (c.centre ∷ (d.centre ∷ [])) (c.radius ∷ (d.radius ∷ []))
model_kept a c d m x y =
    let gains = by_parts c.gains d.gains in (
      m,
      λ i j h k. by2 (λ j. nat_abs (entry gains i j) ≤ 2 ^ 20)
          (by4 (λ i. nat_abs (entry gains i 0) ≤ 2 ^ 20) (x.0 0 (omega arith)) (x.0 1 (omega arith)) (x.0 2 (omega arith)) (x.0 3 (omega arith)) i h)
          (by4 (λ i. nat_abs (entry gains i 1) ≤ 2 ^ 20) (y.0 0 (omega arith)) (y.0 1 (omega arith)) (y.0 2 (omega arith)) (y.0 3 (omega arith)) i h)
          j k,
      (
        by2 (λ j. pos 0 ≤ℤ part (c.radius ∷ (d.radius ∷ [])) j) x.1 y.1,
        by2 (λ j. nat_abs (part (c.centre ∷ (d.centre ∷ [])) j) + nat_abs (part (c.radius ∷ (d.radius ∷ [])) j) ≤ 2 ^ 24) x.2 y.2,
      ),
    )
