-- What a keep-out's line says, with its label as a part of the text.
use Rattle.std.proofs.Common.{◌≡◌, ℕ, ◌+◌, Bool, true, false, cond, List, [], ◌∷◌, length, take, drop, ℤ, Some, None, Ok, Err, Option, Result, sym, refl, ap, ◌∙◌, subst, arith}
use Rattle.plan.specs.declared.faults.FieldFault.{FieldFault}
use Rattle.plan.specs.declared.faults.FieldFault.TheVariants.{Label}
use Rattle.plan.specs.declared.faults.LineFault.{LineFault}
use Rattle.plan.specs.declared.record.Kind.TheVariants as kinds
use Rattle.plan.specs.declared.record.Expected.{Expected}
use Rattle.plan.specs.Cuts.{line_of}
use Rattle.plan.specs.Fields.{is_label, label_of}
use Rattle.plan.specs.Readings.{Reading, bind, then, found, cut_line, placed, line_by}
use Rattle.plan.specs.Records.{Fielded, record_of}
use Rattle.plan.specs.Values.{Late, keeping, in_line, keep_out_of, late_from, late_of}
use Rattle.plan.proofs.Joins.{label_at}

found_ok : (n : ℕ) (o : Option (List ℕ × List ℕ)) (l : List ℕ) (m : ℕ) (r : List ℕ) → found n o ≡ Ok (l, m, r) → o ≡ Some (l, r)
found_ok n None l m r e = let z : ◌≡◌ {A = ℕ} 0 1 = cc in absurd (omega arith)
found_ok n (Some p) l m r e =
    let q : ◌≡◌ {A = List ℕ × ℕ × List ℕ} (p.0, n, p.1) (l, m, r) = cc in
    ap (λ (q : List ℕ × ℕ × List ℕ). Some (q.0, q.2)) q

pub label_ok : (text label : List ℕ) → label_of text ≡ Ok label → (text ≡ label) × (is_label text ≡ true)
label_ok text label e = go (is_label text) refl e
  where
    go : (t : Bool) → is_label text ≡ t → cond {A = Result (List ℕ) FieldFault} t (Ok text) (Err (Label 2)) ≡ Ok label → (text ≡ label) × (is_label text ≡ true)
    go true t e = let q : text ≡ label = cc in (q, t)
    go false t e = let z : ◌≡◌ {A = ℕ} 0 1 = cc in absurd (omega arith)

-- the keep-out of a label and of what follows it
abbrev labelled : Result (List ℕ) FieldFault → Result (List ℤ × ℤ) LineFault → Result Late LineFault
labelled l k = bind (bind (in_line l) (λ l. bind k (λ k. Ok (record { label = l; entries = k.0; threshold = k.1 })))) (λ x. Ok (keeping x))

pub late_keep : (n pos : ℕ) (text line rest : List ℕ) (m : ℕ) (x : Expected) (name label a b c d t : List ℕ) (v : List ℤ × ℤ)
    → cut_line n (drop pos text) ≡ Ok (line, m, rest) → record_of x line ≡ Ok (kinds.Keep, name ∷ a ∷ b ∷ c ∷ d ∷ t ∷ []) → label_of name ≡ Ok label → keep_out_of a b c d t ≡ Ok v
    → line_by (late_of x) n (drop pos text) ≡ Ok (keeping (record { label = take (length label) (drop (pos + 5) text); entries = v.0; threshold = v.1 }), m, rest)
late_keep n pos text line rest m x name label a b c d t v cut rec lab keep =
    let at = label_at text pos line rest x name (a ∷ b ∷ c ∷ d ∷ t ∷ []) (found_ok (n + 1) (line_of (drop pos text)) line m rest cut) rec in
    let same = (label_ok name label lab).0 in
    let e : label ≡ take (length label) (drop (pos + 5) text) = subst (λ (l : List ℕ). l ≡ take (length l) (drop (pos + 5) text)) same (sym at) in
    ap (λ (r : Reading (List ℕ)). then r (λ line n t. placed n t (late_of x line))) cut
    ∙ ap (λ (r : Result Fielded LineFault). placed m rest (bind r late_from)) rec
    ∙ ap (λ (l : Result (List ℕ) FieldFault). placed m rest (labelled l (keep_out_of a b c d t))) lab
    ∙ ap (λ (k : Result (List ℤ × ℤ) LineFault). placed m rest (labelled (Ok label) k)) keep
    ∙ ap (λ (l : List ℕ). Ok (keeping (record { label = l; entries = v.0; threshold = v.1 }), m, rest)) e
