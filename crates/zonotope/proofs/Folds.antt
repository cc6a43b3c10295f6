-- The loop of folds: what is left to fold gives the same.
use Rattle.std.proofs.Common.{◌≡◌, ℕ, zero, suc, ◌-◌, ◌<◌, ◌≤◌, List, length, ℤ, Some, None, Option, sym, refl, ap, ◌∙◌, ap₂}
use Rattle.std.specs.Option.{option_map}
use Rattle.zonotope.specs.declared.fold.Folding.{Folding}
use Rattle.zonotope.specs.Shape.{Shape}
use Rattle.zonotope.specs.Choice.{lightest}
use Rattle.zonotope.specs.Fold.{folded, folds, reduced}
use Rattle.zonotope.specs.Spread.{spread_charged, spreads}
use Rattle.zonotope.specs.Forms.{standing}
use Rattle.zonotope.specs.Foldings.{folding_shape}
use Rattle.zonotope.proofs.Roomy.{reduced-more, spreads-more, reduced-none, spreads-none}

-- what is left of the spread, where there is one
abbrev pub left : Shape → Option (List ℤ) → Option (List ℤ)
left z o = option_map (spreads (length z.generators - 16) z) o

left-more : (z : Shape) (o : Option (List ℤ)) → 16 < length z.generators → left (folded (lightest z.generators) z) (option_map (spread_charged z) o) ≡ left z o
left-more z None h = refl
left-more z (Some s) h = ap Some (sym (spreads-more z s h))

left-none : (z : Shape) (o : Option (List ℤ)) → length z.generators ≤ 16 → left z o ≡ o
left-none z None h = refl
left-none z (Some s) h = ap Some (spreads-none z s h)

pub record Folds (start now : Folding) : Type 0 where
  pub shape : reduced (folding_shape now) ≡ reduced (folding_shape start)
  pub spread : left (folding_shape now) now.spread ≡ left (folding_shape start) start.spread

pub folds-more : (start now next : Folding) → 16 < length (standing now.generators) → folding_shape next ≡ folded (lightest (standing now.generators)) (folding_shape now) → next.spread ≡ option_map (spread_charged (folding_shape now)) now.spread
    → Folds start now → Folds start next
folds-more start now next h e f s =
    let z = folding_shape now in
    record { shape = ap reduced e ∙ sym (reduced-more z h) ∙ s.shape; spread = ap₂ left e f ∙ left-more z now.spread h ∙ s.spread }

pub record Reduced (start now : Folding) : Type 0 where
  pub shape : folding_shape now ≡ reduced (folding_shape start)
  pub spread : now.spread ≡ left (folding_shape start) start.spread

pub folds_all : (start now : Folding) → length (standing now.generators) ≤ 16 → Folds start now → Reduced start now
folds_all start now h s =
    record { shape = sym (reduced-none (folding_shape now) h) ∙ s.shape; spread = sym (left-none (folding_shape now) now.spread h) ∙ s.spread }

-- a fold leaves the centre
pub folds-centre : (n : ℕ) (z : Shape) → (folds n z).centre ≡ z.centre
unfolding folds folded
folds-centre zero z = refl
folds-centre (suc n) z = folds-centre n (folded (lightest z.generators) z)
