use Rattle.std.proofs.Common.{ℕ, ◌∙◌, pos, unsigned_abs}
use Rattle.std.specs.Int.{cast_signed, w64}
use Rattle.std.proofs.lemmas.Int.{to_z_pos}
use Rattle.arith.specs.Sums.{part}
use Rattle.arith.proofs.Bridge.{listed_ext}
use Rattle.arith.proofs.Sums.{written_all}
use Rattle.arith.proofs.size.sizes.Goals as goal

pub returns : goal.returns
returns g c =
    let f = λ (i : ℕ). cast_signed w64 (unsigned_abs (part c.args.numbers i)) in
    let e = written_all g.row.N c.loop-i.i f c.loop-i.sizes c.loop-i-test.false c.loop-i.invariant in
    record { value = e; exact = λ h. e ∙ listed_ext g.row.N f (λ i. pos (unsigned_abs (part c.args.numbers i))) (λ i k. to_z_pos w64 (unsigned_abs (part c.args.numbers i)) (h i k)) }
