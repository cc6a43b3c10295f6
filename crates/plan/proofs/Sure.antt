-- Every text that is read as a plan spells that plan.
use Rattle.std.proofs.Common.{◌≡◌, ℕ, zero, suc, ◌+◌, ◌^◌, ◌≤◌, List, [], ◌∷◌, ◌++◌, length, get_or, ℤ, pos, neg_ℤ, nat_abs, ◌≤ℤ◌, Ok, Result, sym, refl, ap, ◌∙◌, subst, arith}
use Rattle.std.proofs.lemmas.List.{append_assoc}
use Rattle.std.proofs.lemmas.Int.{ints}
use Rattle.arith.specs.Sums.{part}
use Rattle.dynamics.specs.declared.channel.Channel.{Channel}
use Rattle.dynamics.specs.Limits.{DirectionLimits}
use Rattle.plan.specs.declared.faults.LineFault.{LineFault}
use Rattle.plan.specs.declared.record.Kind.{Kind}
use Rattle.plan.specs.declared.record.Kind.TheVariants as kinds
use Rattle.plan.specs.declared.record.Expected.{Expected}
use Rattle.plan.specs.declared.record.Expected.TheVariants as expect
use Rattle.plan.specs.Fields.{within_field, up_to_field, index_of, entries_of, is_label, label_of}
use Rattle.plan.specs.Grammar.{tabbed, line, word}
use Rattle.plan.specs.Keeps.{Kept}
use Rattle.plan.specs.Readings.{bind, line_by}
use Rattle.plan.specs.Records.{Fielded, kind_of, width, record_of}
use Rattle.plan.specs.Spelling.{Numeral, Item, number, Spelt, Fields, numbers4, row_entry, keep_entry, steps_entry, KeptSound}
use Rattle.plan.specs.Values.{Late, keeping, stepping, in_line, pair_of, row_from, gust_from, start_from, keep_out_of, keep_from, steps_from, late_from, row_of, gust_of, start_of, late_of}
use Rattle.plan.proofs.Inside.{bind_ok, in_line_ok, ranged-kept, within-kept, up_to_kept, entries-kept, together_ok, pair_kept, line_by_ok, ChannelKept}
use Rattle.plan.proofs.Joins.{line-joined, record_joined}
use Rattle.plan.proofs.Lates.{label_ok}
use Rattle.plan.proofs.Numerals.{number_sound}

-- ---- fields
abbrev Upto : ℕ → (ℕ → Type 0) → Type 0
Upto zero P = Unit {0}
Upto (suc n) P = P 0 × Upto n (λ k. P (suc k))

fields_made : (fs : List (List ℕ)) (is : List Item) → length fs ≡ length is → Upto (length is) (λ k. Spelt (get_or fs k []) (get_or is k (number (pos 0)))) → Fields fs is
fields_made [] [] h s = tt
fields_made [] (i ∷ is) h s = absurd (omega arith)
fields_made (f ∷ fs) [] h s = absurd (omega arith)
fields_made (f ∷ fs) (i ∷ is) h s = (s.0, fields_made fs is (omega arith) s.1)

within_sure : (f n : ℕ) (text : List ℕ) (z : ℤ) → within_field f n text ≡ Ok z → Numeral text z
within_sure f n text z e = number_sound f text z (ranged-kept f (neg_ℤ (pos n)) (pos n) text z e).2

up_to_sure : (f n : ℕ) (text : List ℕ) (z : ℤ) → up_to_field f n text ≡ Ok z → Numeral text z
up_to_sure f n text z e = number_sound f text z (ranged-kept f (pos 0) (pos n) text z e).2

between : (z : ℤ) (i : ℕ) → pos i ≤ℤ z → z ≤ℤ pos i → z ≡ pos i
between z i h k = omega (arith, ints)

index_sure : (i : ℕ) (text : List ℕ) (z : ℤ) → index_of i text ≡ Ok z → Numeral text (pos i)
index_sure i text z e =
    let k = ranged-kept 2 (pos i) (pos i) text z e in
    subst (Numeral text) (between z i k.0 k.1) (number_sound 2 text z k.2)

abbrev Four : List ℕ → List ℕ → List ℕ → List ℕ → List ℤ → Type 0
Four a b c d v = Numeral a (part v 0) × Numeral b (part v 1) × Numeral c (part v 2) × Numeral d (part v 3) × (length v ≡ 4)

entries_sure : (a b c d : List ℕ) (v : List ℤ) → entries_of a b c d ≡ Ok v → Four a b c d v
entries_sure a b c d v e =
    let p = bind_ok (within_field 3 (2 ^ 20) a) _ v e in
    let q = bind_ok (within_field 4 (2 ^ 20) b) _ v p.2 in
    let s = bind_ok (within_field 5 (2 ^ 20) c) _ v q.2 in
    let t = bind_ok (within_field 6 (2 ^ 20) d) _ v s.2 in
    let l : p.0 ∷ q.0 ∷ s.0 ∷ t.0 ∷ [] ≡ v = cc in
    subst (Four a b c d) l (within_sure 3 (2 ^ 20) a p.0 p.1, within_sure 4 (2 ^ 20) b q.0 q.1, within_sure 5 (2 ^ 20) c s.0 s.1, within_sure 6 (2 ^ 20) d t.0 t.1, refl)

pair_sure : (f n : ℕ) (x y : List ℕ) (v : ℤ × ℤ) → pair_of f n x y ≡ Ok v → Numeral x v.0 × Numeral y v.1
pair_sure f n x y v e = let t = together_ok f n _ _ v e in (within_sure f n x v.0 t.0, up_to_sure (f + 1) n y v.1 t.1)

-- ---- records
row_sure : (i : ℕ) (fs : List (List ℕ)) (v : List ℤ) → length fs ≡ 5 → row_from i fs ≡ Ok v → Fields fs (row_entry i v).1 × (length v ≡ 4) × DirectionLimits v
row_sure i fs v h e =
    let n = bind_ok (in_line (index_of i (get_or fs 0 []))) _ v e in
    let q = in_line_ok _ v n.2 in
    let f = entries_sure (get_or fs 1 []) (get_or fs 2 []) (get_or fs 3 []) (get_or fs 4 []) v q in (
      fields_made fs (row_entry i v).1 h (index_sure i (get_or fs 0 []) n.0 (in_line_ok _ n.0 n.1), (f.0, (f.1, (f.2, (f.3, tt))))),
      f.4,
      entries-kept (get_or fs 1 []) (get_or fs 2 []) (get_or fs 3 []) (get_or fs 4 []) v q,
    )

abbrev pub gust_items : ℕ → Channel → List Item
gust_items j c = number (pos j) ∷ numbers4 c.gains (number c.centre ∷ number c.radius ∷ [])

gust_sure : (j : ℕ) (fs : List (List ℕ)) (c : Channel) → length fs ≡ 7 → gust_from j fs ≡ Ok c → Fields fs (gust_items j c) × ChannelKept c
gust_sure j fs c h e =
    let n = bind_ok (in_line (index_of j (get_or fs 0 []))) _ c e in
    let g = bind_ok (in_line (entries_of (get_or fs 1 []) (get_or fs 2 []) (get_or fs 3 []) (get_or fs 4 []))) _ c n.2 in
    let p = bind_ok (pair_of 7 (2 ^ 24) (get_or fs 5 []) (get_or fs 6 [])) _ c g.2 in
    let same : record { gains = g.0; centre = p.0.0; radius = p.0.1 } ≡ c = cc in
    let q = in_line_ok _ g.0 g.1 in
    let f = entries_sure (get_or fs 1 []) (get_or fs 2 []) (get_or fs 3 []) (get_or fs 4 []) g.0 q in
    let w = pair_sure 7 (2 ^ 24) (get_or fs 5 []) (get_or fs 6 []) p.0 p.1 in
    let k = pair_kept 7 (2 ^ 24) (get_or fs 5 []) (get_or fs 6 []) p.0 p.1 in
    let P : Channel → Type 0 = λ c. Fields fs (gust_items j c) × ChannelKept c in
    subst P same (
      fields_made fs (gust_items j (record { gains = g.0; centre = p.0.0; radius = p.0.1 })) h
          (index_sure j (get_or fs 0 []) n.0 (in_line_ok _ n.0 n.1), (f.0, (f.1, (f.2, (f.3, (w.0, (w.1, tt))))))),
      (entries-kept (get_or fs 1 []) (get_or fs 2 []) (get_or fs 3 []) (get_or fs 4 []) g.0 q, k.0, k.1),
    )

abbrev pub start_items : ℕ → ℤ × ℤ → List Item
start_items i v = number (pos i) ∷ number v.0 ∷ number v.1 ∷ []

abbrev pub PairKept : ℤ × ℤ → Type 0
PairKept v = (pos 0 ≤ℤ v.1) × (nat_abs v.0 + nat_abs v.1 ≤ 2 ^ 30)

start_sure : (i : ℕ) (fs : List (List ℕ)) (v : ℤ × ℤ) → length fs ≡ 3 → start_from i fs ≡ Ok v → Fields fs (start_items i v) × PairKept v
start_sure i fs v h e =
    let n = bind_ok (in_line (index_of i (get_or fs 0 []))) _ v e in
    let w = pair_sure 3 (2 ^ 30) (get_or fs 1 []) (get_or fs 2 []) v n.2 in (
      fields_made fs (start_items i v) h (index_sure i (get_or fs 0 []) n.0 (in_line_ok _ n.0 n.1), (w.0, (w.1, tt))),
      pair_kept 3 (2 ^ 30) (get_or fs 1 []) (get_or fs 2 []) v n.2,
    )

keep_sure : (fs : List (List ℕ)) (k : Kept) → length fs ≡ 6 → keep_from fs ≡ Ok k → Fields fs (keep_entry k).1 × KeptSound k
keep_sure fs k h e =
    let n = bind_ok (in_line (label_of (get_or fs 0 []))) _ k e in
    let o = bind_ok (keep_out_of (get_or fs 1 []) (get_or fs 2 []) (get_or fs 3 []) (get_or fs 4 []) (get_or fs 5 [])) _ k n.2 in
    let v = bind_ok (in_line (entries_of (get_or fs 1 []) (get_or fs 2 []) (get_or fs 3 []) (get_or fs 4 []))) _ o.0 o.1 in
    let t = bind_ok (in_line (within_field 7 (2 ^ 52) (get_or fs 5 []))) _ o.0 v.2 in
    let pair : (v.0, t.0) ≡ o.0 = cc in
    let same : record { label = n.0; entries = o.0.0; threshold = o.0.1 } ≡ k = cc in
    let l = label_ok (get_or fs 0 []) n.0 (in_line_ok _ n.0 n.1) in
    let q = in_line_ok _ v.0 v.1 in
    let f = entries_sure (get_or fs 1 []) (get_or fs 2 []) (get_or fs 3 []) (get_or fs 4 []) v.0 q in
    let w = in_line_ok _ t.0 t.1 in
    let made : List ℤ × ℤ → Kept = λ p. record { label = n.0; entries = p.0; threshold = p.1 } in
    let P : Kept → Type 0 = λ k. Fields fs (keep_entry k).1 × KeptSound k in
    subst P (ap made pair ∙ same) (
      fields_made fs (keep_entry (made (v.0, t.0))).1 h
          ((l.0, ap is_label (sym l.0) ∙ l.1), (f.0, (f.1, (f.2, (f.3, (within_sure 7 (2 ^ 52) (get_or fs 5 []) t.0 w, tt)))))),
      (f.4, entries-kept (get_or fs 1 []) (get_or fs 2 []) (get_or fs 3 []) (get_or fs 4 []) v.0 q, within-kept 7 (2 ^ 52) (get_or fs 5 []) t.0 w, ap is_label (sym l.0) ∙ l.1),
    )

from_nought : (z : ℤ) → pos 0 ≤ℤ z → z ≡ pos (nat_abs z)
from_nought z h = omega (arith, ints)

steps_sure : (fs : List (List ℕ)) (n : ℕ) → length fs ≡ 1 → steps_from fs ≡ Ok n → Fields fs (steps_entry n).1 × (n ≤ 256)
steps_sure fs n h e =
    let z = bind_ok (up_to_field 2 256 (get_or fs 0 [])) (λ z. Ok (nat_abs z)) n (in_line_ok _ n e) in
    let k = up_to_kept 2 256 (get_or fs 0 []) z.0 z.1 in
    let f = z.2 in
    let same : nat_abs z.0 ≡ n = cc in
    let P : ℕ → Type 0 = λ n. Fields fs (steps_entry n).1 × (n ≤ 256) in
    subst P same (fields_made fs (steps_entry (nat_abs z.0)).1 h (subst (Numeral (get_or fs 0 [])) (from_nought z.0 k.0) (up_to_sure 2 256 (get_or fs 0 []) z.0 z.1), tt), k.1)

-- ---- lines
line_sure : {A : Type 0} (x : Expected) (g : Fielded → Result A LineFault) (n : ℕ) (t : List ℕ) (p : A × ℕ × List ℕ) → line_by (λ l. bind (record_of x l) g) n t ≡ Ok p
    → (r : Fielded) × (t ≡ line (word r.0 ∷ r.1) ++ p.2) × (length r.1 ≡ width r.0) × (kind_of x (word r.0) ≡ Ok r.0) × (g r ≡ Ok p.0)
line_sure {A} x g n t p e =
    let l = line_by_ok (λ l. bind (record_of x l) g) n t p e in
    let r = bind_ok (record_of x l.0) g p.0 l.2 in
    let j = record_joined x l.0 r.0 r.1 in
    let w = tabbed (word r.0.0 ∷ r.0.1) in
    (r.0, line-joined t l.0 p.2 l.1 ∙ ap (λ (u : List ℕ). u ++ 10 ∷ p.2) j.0 ∙ sym (append_assoc w (10 ∷ []) p.2), j.1, j.2, r.2)

row_kind : (k : Kind) → kind_of expect.Row (word k) ≡ Ok k → k ≡ kinds.Row
row_kind kinds.Row e = refl
row_kind kinds.Gust e = let z : ◌≡◌ {A = ℕ} 0 1 = cc in absurd (omega arith)
row_kind kinds.Start e = let z : ◌≡◌ {A = ℕ} 0 1 = cc in absurd (omega arith)
row_kind kinds.Keep e = let z : ◌≡◌ {A = ℕ} 0 1 = cc in absurd (omega arith)
row_kind kinds.Steps e = let z : ◌≡◌ {A = ℕ} 0 1 = cc in absurd (omega arith)

gust_kind : (k : Kind) → kind_of expect.Gust (word k) ≡ Ok k → k ≡ kinds.Gust
gust_kind kinds.Row e = let z : ◌≡◌ {A = ℕ} 0 1 = cc in absurd (omega arith)
gust_kind kinds.Gust e = refl
gust_kind kinds.Start e = let z : ◌≡◌ {A = ℕ} 0 1 = cc in absurd (omega arith)
gust_kind kinds.Keep e = let z : ◌≡◌ {A = ℕ} 0 1 = cc in absurd (omega arith)
gust_kind kinds.Steps e = let z : ◌≡◌ {A = ℕ} 0 1 = cc in absurd (omega arith)

start_kind : (k : Kind) → kind_of expect.Start (word k) ≡ Ok k → k ≡ kinds.Start
start_kind kinds.Row e = let z : ◌≡◌ {A = ℕ} 0 1 = cc in absurd (omega arith)
start_kind kinds.Gust e = let z : ◌≡◌ {A = ℕ} 0 1 = cc in absurd (omega arith)
start_kind kinds.Start e = refl
start_kind kinds.Keep e = let z : ◌≡◌ {A = ℕ} 0 1 = cc in absurd (omega arith)
start_kind kinds.Steps e = let z : ◌≡◌ {A = ℕ} 0 1 = cc in absurd (omega arith)

-- a text that begins with a line of a kind, whose fields say these items
abbrev pub Begins : List ℕ → Kind → List Item → List ℕ → Type 0
Begins t k is u = (fs : List (List ℕ)) × (t ≡ line (word k ∷ fs) ++ u) × Fields fs is

pub row_read : (i n : ℕ) (t : List ℕ) (p : List ℤ × ℕ × List ℕ) → line_by (row_of i) n t ≡ Ok p → Begins t kinds.Row (row_entry i p.0).1 p.2 × (length p.0 ≡ 4) × DirectionLimits p.0
row_read i n t p e =
    let l = line_sure expect.Row (λ r. row_from i r.1) n t p e in
    let k = row_kind l.0.0 l.3 in
    let s = row_sure i l.0.1 p.0 (l.2 ∙ ap width k) l.4 in
    ((l.0.1, subst (λ (k : Kind). t ≡ line (word k ∷ l.0.1) ++ p.2) k l.1, s.0), s.1, s.2)

pub gust_read : (j n : ℕ) (t : List ℕ) (p : Channel × ℕ × List ℕ) → line_by (gust_of j) n t ≡ Ok p → Begins t kinds.Gust (gust_items j p.0) p.2 × ChannelKept p.0
gust_read j n t p e =
    let l = line_sure expect.Gust (λ r. gust_from j r.1) n t p e in
    let k = gust_kind l.0.0 l.3 in
    let s = gust_sure j l.0.1 p.0 (l.2 ∙ ap width k) l.4 in
    ((l.0.1, subst (λ (k : Kind). t ≡ line (word k ∷ l.0.1) ++ p.2) k l.1, s.0), s.1)

pub start_read : (i n : ℕ) (t : List ℕ) (p : (ℤ × ℤ) × ℕ × List ℕ) → line_by (start_of i) n t ≡ Ok p → Begins t kinds.Start (start_items i p.0) p.2 × PairKept p.0
start_read i n t p e =
    let l = line_sure expect.Start (λ r. start_from i r.1) n t p e in
    let k = start_kind l.0.0 l.3 in
    let s = start_sure i l.0.1 p.0 (l.2 ∙ ap width k) l.4 in
    ((l.0.1, subst (λ (k : Kind). t ≡ line (word k ∷ l.0.1) ++ p.2) k l.1, s.0), s.1)

abbrev pub LateRead : List ℕ → Late → List ℕ → Type 0
LateRead t (keeping k) u = Begins t kinds.Keep (keep_entry k).1 u × KeptSound k
LateRead t (stepping n) u = Begins t kinds.Steps (steps_entry n).1 u × (n ≤ 256)

late_case : (k : Kind) (fs : List (List ℕ)) (t u : List ℕ) (v : Late) → t ≡ line (word k ∷ fs) ++ u → length fs ≡ width k → late_from (k, fs) ≡ Ok v → LateRead t v u
late_case kinds.Row fs t u v q h e = let z : ◌≡◌ {A = ℕ} 0 1 = cc in absurd (omega arith)
late_case kinds.Gust fs t u v q h e = let z : ◌≡◌ {A = ℕ} 0 1 = cc in absurd (omega arith)
late_case kinds.Start fs t u v q h e = let z : ◌≡◌ {A = ℕ} 0 1 = cc in absurd (omega arith)
late_case kinds.Keep fs t u v q h e =
    let k = bind_ok (keep_from fs) (λ k. Ok (keeping k)) v e in
    let f = k.2 in
    let same : keeping k.0 ≡ v = cc in
    let s = keep_sure fs k.0 h k.1 in
    subst (λ (v : Late). LateRead t v u) same ((fs, q, s.0), s.1)
late_case kinds.Steps fs t u v q h e =
    let k = bind_ok (steps_from fs) (λ n. Ok (stepping n)) v e in
    let f = k.2 in
    let same : stepping k.0 ≡ v = cc in
    let s = steps_sure fs k.0 h k.1 in
    subst (λ (v : Late). LateRead t v u) same ((fs, q, s.0), s.1)

pub late_read : (x : Expected) (n : ℕ) (t : List ℕ) (p : Late × ℕ × List ℕ) → line_by (late_of x) n t ≡ Ok p → LateRead t p.0 p.2
late_read x n t p e = let l = line_sure x late_from n t p e in late_case l.0.0 l.0.1 t p.2 p.0 l.1 l.2 l.4
