-- A run with one state more.
use Rattle.std.proofs.Common.{◌≡◌, ℕ, zero, suc, ◌+◌, ◌^◌, ◌<◌, ◌≤◌, Bool, true, false, leb, ◌&&◌, ◌⊎◌, List, [], ◌∷◌, ◌++◌, map, length, ℤ, nat_abs, sym, refl, ap, ◌∙◌, subst, inl, inr, ⊎_elim, arith, length-append, leb-true}
use Rattle.arith.specs.Sums.{part}
use Rattle.trials.specs.Walks.{near}
use Rattle.dynamics.specs.declared.model.Model.{Model}
use Rattle.dynamics.specs.declared.start.Start.{Start}
use Rattle.dynamics.specs.Values.{State}
use Rattle.dynamics.specs.Runs.{state, Started, Permitted, Run}

length_mapped : (xs : List (List ℤ)) → length (map part xs) ≡ length xs
length_mapped [] = refl
length_mapped (x ∷ xs) = ap suc (length_mapped xs)

-- the states before the last stand
left : (xs ys : List (List ℤ)) (k : ℕ) → k < length xs → state (map part (xs ++ ys)) k ≡ state (map part xs) k
left [] ys k h = absurd (omega arith)
left (x ∷ xs) ys zero h = refl
left (x ∷ xs) ys (suc k) h = left xs ys k (omega arith)

at : (xs : List (List ℤ)) (y : List ℤ) (ys : List (List ℤ)) → state (map part (xs ++ (y ∷ ys))) (length xs) ≡ part y
at [] y ys = refl
at (x ∷ xs) y ys = at xs y ys

less_or_last : (k n : ℕ) → suc k < n + 1 → (suc k < n) ⊎ (suc k ≡ n)
less_or_last k zero h = absurd (omega arith)
less_or_last zero (suc zero) h = inr refl
less_or_last (suc k) (suc zero) h = absurd (omega arith)
less_or_last zero (suc (suc n)) h = inl (omega arith)
less_or_last (suc k) (suc (suc n)) h = ⊎_elim (λ (l : suc k < suc n). inl (omega arith)) (λ (e : suc k ≡ suc n). inr (ap suc e)) (less_or_last k (suc n) (omega arith))

-- the states so far are a run, and x is the last
pub record Walking (m : Model) (s : Start) (xs : List (List ℤ)) (x : List ℤ) : Type 0 where
  pub run : Run m s (map part xs)
  pub before : List (List ℤ)
  pub ends : xs ≡ before ++ (x ∷ [])

pub begun : (m : Model) (s : Start) (xs : List (List ℤ)) (x : List ℤ) → xs ≡ [] ++ (x ∷ []) → Started s (part x) → Walking m s xs x
begun m s xs x e h = record {
  run = subst (λ (ys : List (List ℤ)). Run m s (map part ys)) (sym e) (record { some = omega arith; begins = h; follows = λ k l. absurd (omega arith) });
  before = [];
  ends = e;
}

-- x is the state at the end
last : (ys xs : List (List ℤ)) (x : List ℤ) → xs ≡ ys ++ (x ∷ []) → state (map part xs) (length ys) ≡ part x
last ys xs x q = ap (λ (zs : List (List ℤ)). state (map part zs) (length ys)) q ∙ at ys x []

follows_more : (m : Model) {s : Start} (xs : List (List ℤ)) (x y : List ℤ) → Run m s (map part xs) → Permitted m (part x) (part y)
    → (j n : ℕ) → length xs ≡ n + 1 → state (map part xs) n ≡ part x → suc j < length xs + 1
    → Permitted m (state (map part (xs ++ (y ∷ []))) j) (state (map part (xs ++ (y ∷ []))) (suc j))
follows_more m xs x y r p j n e q h =
    ⊎_elim
    (λ (l : suc j < length xs).
    subst (λ (z : State). Permitted m z (state (map part (xs ++ (y ∷ []))) (suc j))) (sym (left xs (y ∷ []) j (omega arith)))
    (subst (λ (z : State). Permitted m (state (map part xs) j) z) (sym (left xs (y ∷ []) (suc j) l)) (r.follows j (omega (arith, length_mapped xs)))))
    (λ (f : suc j ≡ length xs).
    let g : j ≡ n = omega arith in
    let u : state (map part (xs ++ (y ∷ []))) j ≡ part x = left xs (y ∷ []) j (omega arith) ∙ ap (state (map part xs)) g ∙ q in
    let v : state (map part (xs ++ (y ∷ []))) (suc j) ≡ part y = ap (state (map part (xs ++ (y ∷ [])))) f ∙ at xs y [] in
    subst (λ (z : State). Permitted m z (state (map part (xs ++ (y ∷ []))) (suc j))) (sym u)
    (subst (λ (z : State). Permitted m (part x) z) (sym v) p))
    (less_or_last j (length xs) h)

pub more : (m : Model) (s : Start) (xs zs : List (List ℤ)) (x y : List ℤ) → Walking m s xs x → Permitted m (part x) (part y) → zs ≡ xs ++ (y ∷ []) → Walking m s zs y
more m s xs zs x y w p e = record {
  run = subst (λ (ys : List (List ℤ)). Run m s (map part ys)) (sym e) (run_more w.before xs w.ends w.run);
  before = xs;
  ends = e;
}
  where
    run_more : (ys xs : List (List ℤ)) → xs ≡ ys ++ (x ∷ []) → Run m s (map part xs) → Run m s (map part (xs ++ (y ∷ [])))
    run_more ys xs q r =
        let n : length (map part (xs ++ (y ∷ []))) ≡ length xs + 1 = length_mapped (xs ++ (y ∷ [])) ∙ length-append xs (y ∷ []) in
        let k : length xs ≡ length ys + 1 = ap length q ∙ length-append ys (x ∷ []) in
        record {
          some = omega arith;
          begins = subst (λ (z : State). Started s z) (sym (left xs (y ∷ []) 0 (omega arith))) r.begins;
          follows = λ j l. follows_more m xs x y r p j (length ys) k (last ys xs x q) (omega arith);
        }

pub near_parts : (x : List ℤ) {b : Bool} → b ≡ true → b ≡ near x → (i : ℕ) → i < 4 → nat_abs (part x i) ≤ 2 ^ 39
near_parts x e q i h = parts x (sym q ∙ e) i
  where
    small : (z : ℤ) (xs : List ℤ) → (leb (nat_abs z) (2 ^ 39) && near xs) ≡ true → (nat_abs z ≤ 2 ^ 39) × (near xs ≡ true)
    small z xs h = go (leb (nat_abs z) (2 ^ 39)) refl h
      where
        go : (b : Bool) → leb (nat_abs z) (2 ^ 39) ≡ b → (b && near xs) ≡ true → (nat_abs z ≤ 2 ^ 39) × (near xs ≡ true)
        go true e h = (leb-true (nat_abs z) (2 ^ 39) e, h)
        go false e h = cc

    parts : (x : List ℤ) → near x ≡ true → (i : ℕ) → nat_abs (part x i) ≤ 2 ^ 39
    parts [] e i = omega arith
    parts (z ∷ xs) e zero = (small z xs e).0
    parts (z ∷ xs) e (suc i) = parts xs (small z xs e).1 i
