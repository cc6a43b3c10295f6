use Rattle.std.proofs.Common.{◌≡◌, ℕ, ◌+◌, ◌<◌, List, [], ◌∷◌, ◌++◌, map, length, get_or, take, ℤ, pos, refl, ap, arith, w64, SFits, rules}
use Rattle.std.proofs.lemmas.List.{append_assoc, map_more}
use Rattle.std.specs.Fmt.{signed_decimal}
use Rattle.arith.proofs.Bits.{back_is}
use Rattle.plan.specs.Grammar.{tabs}
use Rattle.plan.proofs.line.put_numbers.Goals as goal

tabs-append : (xs ys : List (List ℕ)) → tabs (xs ++ ys) ≡ tabs xs ++ tabs ys
tabs-append [] ys = refl
tabs-append (x ∷ xs) ys = rw (tabs-append xs ys, ← append_assoc)

-- the fields of the numbers up to one, and that one
one_more : (start now next : List ℕ) (zs : List ℤ) (i : ℕ) (z : ℤ) → i < length zs → z ≡ get_or zs i (pos 0)
    → now ≡ start ++ tabs (map signed_decimal (take i zs)) → next ≡ now ++ tabs (signed_decimal z ∷ []) → next ≡ start ++ tabs (map signed_decimal (take (i + 1) zs))
one_more start now next zs i z h e f g =
    let m = ap tabs (map_more signed_decimal zs i (pos 0) h) in
    let t = tabs-append (map signed_decimal (take i zs)) (signed_decimal (get_or zs i (pos 0)) ∷ []) in
    let a = append_assoc start (tabs (map signed_decimal (take i zs))) (tabs (signed_decimal z ∷ [])) in
    cc

pub loop-n-preserved : goal.loop-n-preserved
loop-n-preserved c =
    let zs = c.args.numbers in
    let i = c.loop-n.n-index in
    let f : SFits w64 (get_or zs i (pos 0)) = search rules in
    record { text = one_more _ _ _ zs i _ (search rules) (back_is _ f) c.loop-n.invariant.text c.put_number.ensures.text; len = omega arith }
