-- Lists of numbers of at least 0: their ranges, and how they grow.
use Rattle.std.proofs.Common.{◌≡◌, ℕ, ◌+◌, ◌*◌, ◌<◌, ◌≤◌, List, [], ◌∷◌, length, ℤ, pos, nat_abs, refl, ap, ◌∙◌, suc-mul, arith}
use borrow.Author.Differences.{ints}
use Rattle.arith.specs.Sums.{part, listed}
use Rattle.arith.proofs.Bridge.{listed_ext}
use Rattle.arith.proofs.Indices.{by4}
use Rattle.arith.proofs.Floor.{residue_small}
use Rattle.arith.proofs.Sums.{listed_at}
use Rattle.zonotope.specs.Shape.{size}
use Rattle.zonotope.specs.Advance.{residues}
use Rattle.zonotope.specs.Fold.{grown}
use Rattle.zonotope.specs.Ranges.{Counts, Entries}
use Rattle.zonotope.specs.Spans.{size-listed}

pub listed-size : (f : ℕ → ℕ) (xs : List ℤ) (i : ℕ) → xs ≡ listed 4 (λ i. pos (f i)) → i < 4 → size xs i ≡ f i
listed-size f xs i e h = ap (λ (ys : List ℤ). size ys i) e ∙ size-listed f i h

pub listed_counts : (f : ℕ → ℕ) (xs : List ℤ) (n : ℕ) → xs ≡ listed 4 (λ i. pos (f i)) → ((i : ℕ) → i < 4 → f i ≤ n) → Counts n xs
listed_counts f xs n e h i k = (rw (ap (λ (ys : List ℤ). part ys i) e ∙ listed_at 4 (λ i. pos (f i)) (pos 0) i k) (omega (arith, ints)), rw (listed-size f xs i e k) (h i k))

pub listed-entries : (f : ℕ → ℤ) (n : ℕ) → ((i : ℕ) → i < 4 → nat_abs (f i) ≤ n) → Entries n (listed 4 f)
listed-entries f n h i q = rw (listed_at 4 f (pos 0) i q) (h i q)

pub counts_entries : (n : ℕ) (xs : List ℤ) → Counts n xs → Entries n xs
counts_entries n xs h i k = (h i k).1

-- a vector of zeros, and the sizes that it grows to
abbrev pub zeros : List ℤ
zeros = pos 0 ∷ (pos 0 ∷ (pos 0 ∷ (pos 0 ∷ [])))

pub zeros_are : (i : ℕ) → i < 4 → part zeros i ≡ pos 0
zeros_are = by4 (λ i. part zeros i ≡ pos 0) refl refl refl refl

pub zeros_counts : (n : ℕ) → Counts n zeros
zeros_counts n i h = rw (zeros_are i h) (omega (arith, ints), omega arith)

pub grown_is : (a g : List ℤ) (f : ℕ → ℕ) → ((i : ℕ) → i < 4 → size a i + size g i ≡ f i) → grown a g ≡ listed 4 (λ i. pos (f i))
grown_is a g f h = listed_ext 4 (λ i. pos (size a i + size g i)) (λ i. pos (f i)) (λ i k. ap pos (h i k))

-- the residues of n vectors
pub residues-size : (us : List (List ℤ)) (i : ℕ) → residues us i ≤ length us * 2048
residues-size [] i = omega arith
residues-size (u ∷ us) i = omega (arith, residues-size us i, residue_small (part u i), suc-mul (length us) 2048)

pub grown-zeros : (g : List ℤ) → grown zeros g ≡ listed 4 (λ i. pos (size g i))
grown-zeros g = grown_is zeros g (size g) (λ i h. rw (zeros_are i h) (omega arith))
