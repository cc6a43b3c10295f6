-- Bounds counted direction by direction.
use Rattle.std.proofs.Common.{◌≡◌, ℕ, ◌+◌, ◌^◌, ◌<◌, ◌≤◌, List, length, get_or, take, ℤ, Some, None, Option, sym, refl, ap, ◌∙◌, ap₂, arith}
use Rattle.std.proofs.lemmas.List.{take_all}
use Rattle.std.proofs.lemmas.List.Sums.{fold_more}
use Rattle.dynamics.specs.declared.direction.Direction.{Direction}
use Rattle.trials.specs.declared.tally.Tally.{Tally}
use Rattle.trials.specs.declared.walk.Walk.{Walk}
use Rattle.trials.specs.Counts.{joined, looked, none}
use Rattle.trials.specs.Seen.{seen, seen_in}

-- one bound is looked up
one-looked : (l : Direction) (o : Option ℤ) (k : ℕ) (ws : List Walk) → looked (seen l o k ws) ≡ 1
one-looked l None k ws = refl
one-looked l (Some b) k ws = refl

pub count_more : (l : Direction) (o : Option ℤ) (k : ℕ) (ws : List Walk) (i n : ℕ) (t m r : Tally) → (looked t + looked m < 2 ^ 60 → looked r ≡ looked t + looked m) → looked t ≡ i
    → m ≡ seen l o k ws → i < n → n ≤ 2 ^ 20 → looked r ≡ i + 1
count_more l o k ws i n t m r plus e q h s =
    let one : looked m ≡ 1 = ap looked q ∙ one-looked l o k ws in
    let sum : looked r ≡ looked t + looked m = plus (omega arith) in
    omega arith

module _ (b : Direction → Option ℤ) (k : ℕ) (ws : List Walk) (ls : List Direction) where
  pub seen_more : (i : ℕ) (t m r : Tally) (l : Direction) (o : Option ℤ) → i < length ls → l ≡ get_or ls i l → o ≡ b l → m ≡ seen l o k ws → r ≡ joined t m
      → t ≡ seen_in b k ws (take i ls) → r ≡ seen_in b k ws (take (i + 1) ls)
  seen_more i t m r l o h is e p q inv =
      q ∙ ap₂ joined inv (p ∙ ap (λ (a : Option ℤ). seen l a k ws) e ∙ ap (λ (d : Direction). seen d (b d) k ws) is)
      ∙ sym (fold_more (λ (u : Tally) (d : Direction). joined u (seen d (b d) k ws)) none ls i l h)

  pub seen_all : (i : ℕ) (t : Tally) → length ls ≤ i → t ≡ seen_in b k ws (take i ls) → t ≡ seen_in b k ws ls
  seen_all i t h inv = inv ∙ ap (seen_in b k ws) (take_all i ls h)
