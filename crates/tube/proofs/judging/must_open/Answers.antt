use Rattle.std.proofs.Common.{◌≡◌, true, not, ◌&&◌, ℤ, Some, None, Option, sym, ap, ◌∙◌, ap₂, arith, w64, SFits, rules}
use lib.Signed.{le_z, lt_z}
use Rattle.std.proofs.lemmas.Int.{ints}
use Rattle.std.proofs.lemmas.Bool.Decides.{nat_tests}
use Rattle.arith.proofs.Bits.{back, back_is}
use Rattle.dynamics.specs.declared.direction.Direction.{Direction}
use Rattle.tube.specs.declared.row.Row.{Row}
use Rattle.tube.specs.Judging.{direction_of, bound_along, reaches, is_clear, must_open}
use Rattle.tube.proofs.Directions.{direction_made, direction_none}
use Rattle.tube.proofs.judging.must_open.Goals as goal

-- a clear row, by the direction of its entries
opens : (b : Direction → Option ℤ) (r : Row) (o : Option Direction) → is_clear r.finding ≡ true → direction_of r.entries ≡ o → reaches r.threshold (bound_along b o) ≡ must_open b r
opens b r o e p = sym (ap₂ ◌&&◌ e (ap (λ (o : Option Direction). reaches r.threshold (bound_along b o)) p))

at_least : (t b : ℤ) → le_z t b ≡ not (lt_z b t)
at_least t b = grind (arith, ints, nat_tests)

-- the comparison of numbers that were read
compared : (t b : ℤ) → SFits w64 t → SFits w64 b → le_z (back t) (back b) ≡ not (lt_z b t)
compared t b f g = ap₂ le_z (back_is t f) (back_is b g) ∙ at_least t b

-- the direction that was made of a row's entries
made : (r : Row) (d : Direction) → d.entries ≡ r.entries → direction_of r.entries ≡ Some d
made r d e = ap direction_of (sym e) ∙ direction_made d

pub returns-in_default : goal.returns-in_default
returns-in_default g c =
    opens (λ (l : Direction). g.D.Domain.sense.bounded l (g.D.Domain.form c.args.domain.now)) c.args.row None (sym c.is_clear.ensures ∙ c.if-not-is_clear.false)
    (direction_none c.args.row.entries _ c.in_default.ensures.value)

pub returns-in_default-bound : goal.returns-in_default-bound
returns-in_default-bound g c =
    let b = λ (l : Direction). g.D.Domain.sense.bounded l (g.D.Domain.form c.args.domain.now) in
    let r = c.args.row in
    ap (reaches r.threshold) c.in_default-bound.ensures ∙ opens b r (Some c.in-Ok.direction) (sym c.is_clear.ensures ∙ c.if-not-is_clear.false) (made r c.in-Ok.direction c.in-Ok.ensures.value.1)

pub returns : goal.returns
returns g c =
    let b = λ (l : Direction). g.D.Domain.sense.bounded l (g.D.Domain.form c.args.domain.now) in
    let r = c.args.row in
    let f : SFits w64 r.threshold = search rules in
    let h : SFits w64 c.in-Some.bound = search rules in
    compared r.threshold c.in-Some.bound f h
    ∙ ap (reaches r.threshold) c.in-Some.ensures
    ∙ opens b r (Some c.in-Ok.direction) (sym c.is_clear.ensures ∙ c.if-not-is_clear.false) (made r c.in-Ok.direction c.in-Ok.ensures.value.1)
