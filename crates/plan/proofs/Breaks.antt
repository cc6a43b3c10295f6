-- Where a text is cut.
use Rattle.std.proofs.Common.{◌≡◌, ℕ, suc, ◌+◌, ◌-◌, ◌<◌, ◌≤◌, Bool, not, cond, eqb, List, [], ◌∷◌, length, take, drop, Some, None, Ok, Err, Option, Bor, ◌⊎◌, sym, refl, ap, ◌∙◌, ⊎_elim, arith}
use Rattle.std.specs.List.{before_first, prefix_len, slice_range}
use Rattle.std.specs.Option.{MatchOption}
use Rattle.std.proofs.lemmas.List.{take_all, length-drop}
use Rattle.std.proofs.lemmas.Bool.{cond-true, cond-false, eq-eqb, ne_eqb, cases_eq}
use Rattle.plan.specs.Cuts.{line_of, longer_line, longer_field, fields_of, fields_left}
use Rattle.plan.specs.Readings.{found, cut_line}
use Rattle.plan.specs.declared.faults.LineFault.TheVariants.{NoEnd}

abbrev before : ℕ → List ℕ → List ℕ
before s xs = before_first (λ b. eqb b s) xs

-- the first byte is the one, or it is not
hit : (s b : ℕ) (bs : List ℕ) → b ≡ s → before s (b ∷ bs) ≡ []
hit s b bs e = ap (λ (t : Bool). take (cond (not t) (1 + prefix_len (λ x. not (eqb x s)) bs) 0) (b ∷ bs)) (eq-eqb b s e)

miss : (s b : ℕ) (bs : List ℕ) → (b ≡ s → ⊥) → before s (b ∷ bs) ≡ b ∷ before s bs
miss s b bs n =
    let k : 1 + prefix_len (λ x. not (eqb x s)) bs ≡ suc (prefix_len (λ x. not (eqb x s)) bs) = omega arith in
    ap (λ (t : Bool). take (cond (not t) (1 + prefix_len (λ x. not (eqb x s)) bs) 0) (b ∷ bs)) (ne_eqb b s n) ∙ ap (λ (j : ℕ). take j (b ∷ bs)) k

-- the last field of a line
last_field : (xs : List ℕ) → length xs ≤ length (before 9 xs) → fields_of xs ≡ before 9 xs ∷ []
last_field [] h = refl
last_field (b ∷ bs) h =
    ⊎_elim
    (λ (e : b ≡ 9). absurd (omega (arith, ap length (hit 9 b bs e))))
    (λ n.
    let m = miss 9 b bs n in
    rw m (cond-false _ _ _ (ne_eqb _ _ n) ∙ ap (longer_field b) (last_field bs (omega (arith, ap length m)))))
    (cases_eq b 9)

-- a field, and those after it
one_field : (xs : List ℕ) → length (before 9 xs) < length xs → fields_of xs ≡ before 9 xs ∷ fields_of (drop (length (before 9 xs) + 1) xs)
one_field [] h = absurd (omega arith)
one_field (b ∷ bs) h =
    ⊎_elim
    (λ (e : b ≡ 9). rw (hit 9 b bs e) (cond-true _ _ _ (eq-eqb _ _ e)))
    (λ n.
    let m = miss 9 b bs n in
    let q : suc (length (before 9 bs)) + 1 ≡ suc (length (before 9 bs) + 1) = omega arith in
    rw m (cond-false _ _ _ (ne_eqb _ _ n) ∙ ap (longer_field b) (one_field bs (omega (arith, ap length m))) ∙ ap (λ k. (b ∷ before 9 bs) ∷ fields_of (drop k (b ∷ bs))) (sym q)))
    (cases_eq b 9)

-- what `get` answers of what stands behind a cut
abbrev pub Behind : List ℕ → List ℕ → Option (Bor (List ℕ)) → Type 0
Behind xs part rest =
    MatchOption rest ((length xs < length part + 1) ⊎ (length xs < length xs))
    (λ x. (length part + 1 ≤ length xs) × (length xs ≤ length xs) × (x.now ≡ slice_range xs (length part + 1) (length xs)) × (length x.now + (length part + 1) ≡ length xs))

to_end : (xs : List ℕ) (n : ℕ) → slice_range xs n (length xs) ≡ drop n xs
to_end xs n = take_all (length xs - n) (drop n xs) (omega (arith, length-drop n xs))

nothing_behind : (xs part : List ℕ) → (length xs < length part + 1) ⊎ (length xs < length xs) → length xs ≤ length part
nothing_behind xs part g = ⊎_elim (λ (h : length xs < length part + 1). omega arith) (λ h. absurd (omega arith)) g

pub next_field : (xs part : List ℕ) (rest : Option (Bor (List ℕ))) → part ≡ before 9 xs → Behind xs part rest → fields_of xs ≡ part ∷ fields_left rest
next_field xs part None e g = last_field xs (omega (arith, nothing_behind xs part g, ap length e)) ∙ ap (λ p. p ∷ []) (sym e)
next_field xs part (Some x) e g =
    one_field xs (omega (arith, g.0, ap length e))
    ∙ ap (λ p. p ∷ fields_of (drop (length p + 1) xs)) (sym e)
    ∙ ap (λ t. part ∷ fields_of t) (sym (g.2 ∙ to_end xs (length part + 1)))

-- no line end is left
line-none : (xs : List ℕ) → length xs ≤ length (before 10 xs) → line_of xs ≡ None
line-none [] h = refl
line-none (b ∷ bs) h =
    ⊎_elim
    (λ (e : b ≡ 10). absurd (omega (arith, ap length (hit 10 b bs e))))
    (λ n. cond-false _ _ _ (ne_eqb _ _ n) ∙ ap (longer_line b) (line-none bs (omega (arith, ap length (miss 10 b bs n)))))
    (cases_eq b 10)

-- a line, and what follows its end
line_some : (xs : List ℕ) → length (before 10 xs) < length xs → line_of xs ≡ Some (before 10 xs, drop (length (before 10 xs) + 1) xs)
line_some [] h = absurd (omega arith)
line_some (b ∷ bs) h =
    ⊎_elim
    (λ (e : b ≡ 10). rw (hit 10 b bs e) (cond-true _ _ _ (eq-eqb _ _ e)))
    (λ n.
    let m = miss 10 b bs n in
    let q : suc (length (before 10 bs)) + 1 ≡ suc (length (before 10 bs) + 1) = omega arith in
    rw m (cond-false _ _ _ (ne_eqb _ _ n) ∙ ap (longer_line b) (line_some bs (omega (arith, ap length m))) ∙ ap (λ k. Some (b ∷ before 10 bs, drop k (b ∷ bs))) (sym q)))
    (cases_eq b 10)

pub no_line : (n : ℕ) (xs part : List ℕ) → part ≡ before 10 xs → Behind xs part None → cut_line n xs ≡ Err (n + 1, NoEnd)
no_line n xs part e g = ap (found (n + 1)) (line-none xs (omega (arith, nothing_behind xs part g, ap length e)))

pub next_line : (n : ℕ) (xs part : List ℕ) (x : Bor (List ℕ)) → part ≡ before 10 xs → Behind xs part (Some x) → cut_line n xs ≡ Ok (part, n + 1, x.now)
next_line n xs part x e g =
    ap (found (n + 1))
    (line_some xs (omega (arith, g.0, ap length e))
    ∙ ap (λ p. Some (p, drop (length p + 1) xs)) (sym e)
    ∙ ap (λ t. Some (part, t)) (sym (g.2 ∙ to_end xs (length part + 1))))
