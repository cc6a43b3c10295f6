-- What was cut is put together again.
use Rattle.std.proofs.Common.{◌≡◌, ℕ, ◌+◌, Bool, true, false, cond, eqb, List, [], ◌∷◌, ◌++◌, length, take, drop, Some, None, Ok, Err, codes, Option, Result, sym, refl, ap, ◌∙◌, subst, arith}
use Rattle.std.proofs.lemmas.List.{append_assoc, drop-drop, take_at}
use Rattle.std.proofs.lemmas.Slice.Eq.{bytes_eq-Decides}
use Rattle.std.proofs.lemmas.Bool.{eqb-true}
use Rattle.std.specs.Str.{bytes_eq}
use Rattle.plan.specs.declared.faults.LineFault.{LineFault}
use Rattle.plan.specs.declared.faults.LineFault.TheVariants.{Name, Crowded, Count}
use Rattle.plan.specs.declared.record.Kind.{Kind}
use Rattle.plan.specs.declared.record.Kind.TheVariants as kinds
use Rattle.plan.specs.declared.record.Expected.{Expected}
use Rattle.plan.specs.declared.record.Expected.TheVariants.{Row, Gust, Start, KeepOrSteps, OnlySteps}
use Rattle.plan.specs.Cuts.{line_of, longer_line, fields_of, longer_field}
use Rattle.plan.specs.Grammar.{tabs, tabbed, word}
use Rattle.plan.specs.Records.{Fielded, only, kind_of, width, counted, named, record_of}
use Rattle.plan.proofs.Inside.{bind_ok}

-- a line, its end and the rest are the text
pub line-joined : (t l r : List ℕ) → line_of t ≡ Some (l, r) → t ≡ l ++ 10 ∷ r
line-joined [] l r e = let z : ◌≡◌ {A = ℕ} 0 1 = cc in absurd (omega arith)
line-joined (b ∷ bs) l r e = go (eqb b 10) refl (line_of bs) refl e (line-joined bs)
  where
    go : (t : Bool) → eqb b 10 ≡ t → (o : Option (List ℕ × List ℕ)) → line_of bs ≡ o → cond t (Some ([], bs)) (longer_line b o) ≡ Some (l, r)
        → ((l r : List ℕ) → line_of bs ≡ Some (l, r) → bs ≡ l ++ 10 ∷ r) → b ∷ bs ≡ l ++ 10 ∷ r
    go true t o q e more =
        let p : ◌≡◌ {A = List ℕ × List ℕ} ([], bs) (l, r) = cc in
        ap (λ (c : ℕ). c ∷ bs) (eqb-true b 10 t) ∙ ap (λ (p : List ℕ × List ℕ). p.0 ++ 10 ∷ p.1) p
    go false t None q e more = let z : ◌≡◌ {A = ℕ} 0 1 = cc in absurd (omega arith)
    go false t (Some p) q e more =
        let f : ◌≡◌ {A = List ℕ × List ℕ} (b ∷ p.0, p.1) (l, r) = cc in
        ap (λ (t : List ℕ). b ∷ t) (more p.0 p.1 q) ∙ ap (λ (p : List ℕ × List ℕ). p.0 ++ 10 ∷ p.1) f

longer-tabbed : (b : ℕ) (fs : List (List ℕ)) → tabbed (longer_field b fs) ≡ b ∷ tabbed fs
longer-tabbed b [] = refl
longer-tabbed b (f ∷ fs) = refl

pub some_field : (line : List ℕ) → (f : List ℕ) × (fs : List (List ℕ)) × (fields_of line ≡ f ∷ fs)
some_field [] = ([], [], refl)
some_field (b ∷ bs) = go (eqb b 9) (fields_of bs)
  where
    go : (t : Bool) (fs : List (List ℕ)) → (f : List ℕ) × (gs : List (List ℕ)) × (cond t ([] ∷ fs) (longer_field b fs) ≡ f ∷ gs)
    go true fs = ([], fs, refl)
    go false [] = (b ∷ [], [], refl)
    go false (f ∷ fs) = (b ∷ f, fs, refl)

-- the fields of a line, parted by tabs, are the line
pub fields_joined : (line : List ℕ) → tabbed (fields_of line) ≡ line
fields_joined [] = refl
fields_joined (b ∷ bs) = go (eqb b 9) refl (some_field bs) (fields_joined bs)
  where
    go : (t : Bool) → eqb b 9 ≡ t → (f : List ℕ) × (fs : List (List ℕ)) × (fields_of bs ≡ f ∷ fs) → tabbed (fields_of bs) ≡ bs
        → tabbed (cond t ([] ∷ fields_of bs) (longer_field b (fields_of bs))) ≡ b ∷ bs
    go true t q e =
        ap (λ (fs : List (List ℕ)). tabbed ([] ∷ fs)) q.2 ∙ ap (λ (fs : List (List ℕ)). 9 ∷ tabbed fs) (sym q.2) ∙ ap (λ (u : List ℕ). 9 ∷ u) e ∙ ap (λ (c : ℕ). c ∷ bs) (sym (eqb-true b 9 t))
    go false t q e = longer-tabbed b (fields_of bs) ∙ ap (λ (u : List ℕ). b ∷ u) e

-- ---- the record of a line
counted_ok : (fs : List (List ℕ)) (k : Kind) (r : Fielded) → counted fs k ≡ Ok r → ((k, fs) ≡ r) × (length fs ≡ width k)
counted_ok fs k r e = go (eqb (length fs) (width k)) refl e
  where
    go : (t : Bool) → eqb (length fs) (width k) ≡ t → cond {A = Result Fielded LineFault} t (Ok (k, fs)) (Err Count) ≡ Ok r → ((k, fs) ≡ r) × (length fs ≡ width k)
    go true t e = let q : (k, fs) ≡ r = cc in (q, eqb-true _ _ t)
    go false t e = let z : ◌≡◌ {A = ℕ} 0 1 = cc in absurd (omega arith)

only_ok : (w : List ℕ) (j k : Kind) (name : List ℕ) → only w j name ≡ Ok k → (name ≡ w) × (j ≡ k)
only_ok w j k name e = go (bytes_eq name w) refl e
  where
    go : (t : Bool) → bytes_eq name w ≡ t → cond {A = Result Kind LineFault} t (Ok j) (Err Name) ≡ Ok k → (name ≡ w) × (j ≡ k)
    go true t e = let q : j ≡ k = cc in ((bytes_eq-Decides name w).0 t, q)
    go false t e = let z : ◌≡◌ {A = ℕ} 0 1 = cc in absurd (omega arith)

word_of : (w : List ℕ) (j k : Kind) (name : List ℕ) → word j ≡ w → only w j name ≡ Ok k → name ≡ word k
word_of w j k name h e = let p = only_ok w j k name e in p.0 ∙ sym h ∙ ap word p.1

-- the first field is the word of the kind that it names
pub kind_word : (x : Expected) (k : Kind) (name : List ℕ) → kind_of x name ≡ Ok k → name ≡ word k
kind_word Row k name e = word_of (codes "row") kinds.Row k name refl e
kind_word Gust k name e = word_of (codes "gust") kinds.Gust k name refl e
kind_word Start k name e = word_of (codes "start") kinds.Start k name refl e
kind_word KeepOrSteps k name e = go (bytes_eq name (codes "keep")) refl e
  where
    go : (t : Bool) → bytes_eq name (codes "keep") ≡ t → cond t (Ok kinds.Keep) (only (codes "steps") kinds.Steps name) ≡ Ok k → name ≡ word k
    go true t e = let q : kinds.Keep ≡ k = cc in (bytes_eq-Decides name (codes "keep")).0 t ∙ ap word q
    go false t e = word_of (codes "steps") kinds.Steps k name refl e
kind_word OnlySteps k name e = go (bytes_eq name (codes "keep")) e
  where
    go : (t : Bool) → cond t (Err Crowded) (only (codes "steps") kinds.Steps name) ≡ Ok k → name ≡ word k
    go true e = let z : ◌≡◌ {A = ℕ} 0 1 = cc in absurd (omega arith)
    go false e = word_of (codes "steps") kinds.Steps k name refl e

-- the line of a record is its word and its fields
pub record_joined : (x : Expected) (line : List ℕ) (r : Fielded) → record_of x line ≡ Ok r → (line ≡ tabbed (word r.0 ∷ r.1)) × (length r.1 ≡ width r.0) × (kind_of x (word r.0) ≡ Ok r.0)
record_joined x line r e =
    let s = some_field line in
    let h : named x (s.0 ∷ s.1) ≡ Ok r = sym (ap (named x) s.2) ∙ e in
    let k = bind_ok (kind_of x s.0) (counted s.1) r h in
    let c = counted_ok s.1 k.0 r k.2 in
    let w = kind_word x k.0 s.0 k.1 in
    let P : Fielded → Type 0 = λ r. (line ≡ tabbed (word r.0 ∷ r.1)) × (length r.1 ≡ width r.0) × (kind_of x (word r.0) ≡ Ok r.0) in
    subst P c.0
    (sym (fields_joined line) ∙ ap tabbed s.2 ∙ ap (λ (n : List ℕ). tabbed (n ∷ s.1)) w, c.1, ap (kind_of x) (sym w) ∙ k.1)

-- ---- the label of a keep-out
-- it stands five bytes from where its line begins
pub label_at : (text : List ℕ) (pos : ℕ) (line rest : List ℕ) (x : Expected) (label : List ℕ) (fs : List (List ℕ))
    → line_of (drop pos text) ≡ Some (line, rest) → record_of x line ≡ Ok (kinds.Keep, label ∷ fs) → take (length label) (drop (pos + 5) text) ≡ label
label_at text pos line rest x label fs h e =
    let j = record_joined x line (kinds.Keep, label ∷ fs) e in
    let t : drop pos text ≡ tabbed (codes "keep" ∷ label ∷ fs) ++ (10 ∷ rest) = line-joined (drop pos text) line rest h ∙ ap (λ (u : List ℕ). u ++ 10 ∷ rest) j.0 in
    ap (take (length label)) (sym (drop-drop 5 pos text) ∙ ap (drop 5) t ∙ append_assoc label (tabs fs) (10 ∷ rest)) ∙ take_at label (tabs fs ++ (10 ∷ rest)) (length label) refl
