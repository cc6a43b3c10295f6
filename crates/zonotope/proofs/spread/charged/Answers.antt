use Rattle.std.proofs.Common.{◌≡◌, ℕ, ◌+◌, ◌*◌, ◌^◌, ◌<◌, Bool, List, length, set, ℤ, pos, sym, refl, ap, ◌∙◌, subst, arith, length-set, w64, SFits, rules, eq-eqb, ne_eqb}
use Rattle.arith.specs.Sums.{part}
use Rattle.arith.proofs.Bits.{back_is}
use Rattle.arith.proofs.Sums.{listed_at, listed_is, length-listed, set_at}
use Rattle.zonotope.specs.Shape.{size}
use Rattle.zonotope.specs.Fold.{grown}
use Rattle.zonotope.specs.Spread
use Rattle.zonotope.specs.Spread.{added, spread_folded}
use Rattle.zonotope.proofs.Counts.{listed-size, listed_counts}
use Rattle.zonotope.specs.Spans.{count_is}
use Rattle.zonotope.proofs.spread.charged.Goals as goal

pub grown-twice-requires : goal.grown-twice-requires
grown-twice-requires c = record {
  counts = listed_counts (λ i. size c.args.spread i + size c.args.generator i) c.grown-once.result (2 ^ 61) c.grown-once.ensures (λ i h. omega (arith, (c.requires.spread i h).1, c.requires.generator i h));
  entries = λ i h. omega (arith, c.requires.generator i h);
}

-- charged twice, and the spared part put back
spared : (s g once twice : List ℤ) (p : ℕ) (v : ℤ) → once ≡ grown s g → twice ≡ grown once g → p < 4 → v ≡ pos (size s p) → set twice p v ≡ spread_folded p g s
unfolding spread_folded
spared s g once twice p v e f h q =
    listed_is 4 (λ i. pos (size s i + added p (part g) i)) (pos 0) (set twice p v) (length-set twice p v ∙ long)
    (λ i k. set_at twice p i v (λ (z : ℤ). z ≡ pos (size s i + added p (part g) i)) (omega (arith, long))
    (λ (e : p ≡ i). q ∙ subst (λ (j : ℕ). pos (size s p) ≡ pos (size s j + added p (part g) j)) e (ap pos (nothing (size s p) ∙ ap (λ (b : Bool). size s p + Spread.charged b (size g p)) (sym (eq-eqb p p refl)))))
    (λ ne. cell i k ∙ ap pos (ap (λ (b : Bool). size s i + Spread.charged b (size g i)) (sym (ne_eqb i p ne)))))
  where
    nothing : (n : ℕ) → n ≡ n + 0
    nothing n = omega arith

    long : length twice ≡ 4
    long = ap length f ∙ length-listed 4 (λ i. pos (size once i + size g i))

    cell : (i : ℕ) → i < 4 → part twice i ≡ pos (size s i + 2 * size g i)
    cell i k = ap (λ (xs : List ℤ). part xs i) f ∙ listed_at 4 (λ i. pos (size once i + size g i)) (pos 0) i k ∙ ap pos (omega (arith, listed-size (λ i. size s i + size g i) once i e k))

pub returns : goal.returns
returns c =
    let s = c.args.spread in
    let p = c.longest-spared.result in
    let h = c.longest-spared.ensures.first.inside in
    let f : SFits w64 (part s p) = search rules in
    spared s c.args.generator c.grown-once.result c.grown-twice.result p _ c.grown-once.ensures c.grown-twice.ensures h (back_is (part s p) f ∙ count_is (part s p) (c.requires.spread p h).0)
    ∙ ap (λ (q : ℕ). spread_folded q c.args.generator s) c.longest-spared.ensures.value
